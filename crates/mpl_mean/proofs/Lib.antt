pub mod TokensAreFew
pub mod Readers
pub mod SevenRules
pub mod LeastRefusal
pub mod Simulations
pub mod MoreTurns
pub mod MoreReplies
pub mod Sizes
pub mod SmallPrograms
pub mod Allowance
pub mod Numbers
mod InPlace
pub mod Truth
pub mod Lists
pub mod ExpressionInduction
mod NeverWaits
