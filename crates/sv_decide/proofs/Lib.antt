pub mod AskedSignals
pub mod DesignSignals
pub mod FalsifiedCycles
pub mod FoundValues
pub mod LabelRefutations
pub mod SettledCycles
pub mod SpelledValuations
pub mod SpentSize
