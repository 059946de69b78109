pub mod EnergyLaws
pub mod Keys
