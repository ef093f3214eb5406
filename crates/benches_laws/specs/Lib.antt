-- The shares of the benches; their plans; what the calls tell; what was done on the benches, and what is promised of their union.
pub mod Shares
pub mod Plans
pub mod Calls
pub mod Union
