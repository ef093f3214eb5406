-- Demand one; both jacks of a repeated port; what a plan names; dictionary numbers; why a pattern has its rank; demand two; the robot of demand three; the
-- calls of the order printer; one answer to each call; what adds to covered.
pub mod One
pub mod Jacks
pub mod Named
pub mod Dictionary
pub mod Ranks
pub mod Two
pub mod Robot
pub mod Words
pub mod Lives
pub mod Seats
pub mod Shortest
pub mod Prompt
pub mod Only
pub mod Counts
