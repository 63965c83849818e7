-- Walks over the nodes and links of a graph, in linear time.
pub mod Left
pub mod Spokes
pub mod Alone
pub mod Nodes
pub mod Paths
pub mod Steps
pub mod Tops
pub mod Graphs
pub mod Contours
pub mod Begin
pub mod Courses
pub mod PassedPlaces
pub mod Around
pub mod RingLinks
pub mod NewRings
