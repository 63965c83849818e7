-- Contours simplified: which are perfect, and what answers those and all others.
pub mod PerfectLaws
pub mod FastLaws
pub mod SimplifyLaws
pub mod SimplifiedLaws
