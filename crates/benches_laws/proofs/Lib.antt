-- Laws of the shares, of the plans, of the sums; what is told, case by case; the union.
pub mod Shares
pub mod Plans
pub mod Sums
pub mod Told
pub mod Union
