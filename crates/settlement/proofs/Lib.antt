pub mod Trade
pub mod Supplements
pub mod EnergyLaw
pub mod MoneyLaw
pub mod BalancedLaw
pub mod Bounds
