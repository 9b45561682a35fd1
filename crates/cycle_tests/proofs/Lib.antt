pub mod CounterLegal
