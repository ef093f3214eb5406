-- The theorems: the three demands, both jacks of a repeated port, what a plan names, why a pattern has its rank, demand three for the bytes, reports that are
-- sent twice and the panel to restore, then what the paper says of refusals, of the end and of the longest line, that one answer meets each contract, and
-- that only reports raise covered.
pub mod Jacks
pub mod One
pub mod Named
pub mod Dictionary
pub mod Ranks
pub mod Two
pub mod Three
pub mod Bytes
pub mod Words
pub mod Onward
pub mod Lives
pub mod Seats
pub mod Shortest
pub mod Repeats
pub mod Restored
pub mod Refusals
pub mod Ends
pub mod Longest
pub mod Only
pub mod Counts
-- What they rest on.
pub mod Numbers
pub mod PlanNumbers
