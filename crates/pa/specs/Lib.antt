pub mod Pa
