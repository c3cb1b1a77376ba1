pub mod EitherPart
