pub mod Panels
