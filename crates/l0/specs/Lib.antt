pub mod L0
