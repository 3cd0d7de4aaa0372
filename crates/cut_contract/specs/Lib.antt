pub mod LowestCuts
