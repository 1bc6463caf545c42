pub mod NamedKeys
