pub mod I2cLemmas
