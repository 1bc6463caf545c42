pub mod KeyExpansion
