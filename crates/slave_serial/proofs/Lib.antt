pub mod UartLemmas
pub mod SpiLemmas
