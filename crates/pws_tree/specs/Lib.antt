pub mod Characters
pub mod Lawful
pub mod Made
pub mod Names
pub mod Nodes
pub mod TreeFalls
pub mod Trees
