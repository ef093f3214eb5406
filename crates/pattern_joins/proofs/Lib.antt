pub mod Jacks
