pub mod State
pub mod Fitness
pub mod Standing
