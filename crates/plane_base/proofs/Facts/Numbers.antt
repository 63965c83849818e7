-- Numbers: polynomials, products, rounding and means, and what machine numbers give.
pub mod Polynomials
pub mod Products
pub mod Products64
pub mod Products128
pub mod Rounding
pub mod Means
pub mod Means128
pub mod Weights
pub mod Signs
pub mod Kernels64
pub mod Kernels128
