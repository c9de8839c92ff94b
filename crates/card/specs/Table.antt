-- The card that the memory denotes, for crates that know the card by its calls alone. Assumes nothing.
pub use Rattle.memory.specs.Memory.{card_of}
