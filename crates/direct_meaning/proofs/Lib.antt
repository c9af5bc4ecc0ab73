pub mod Laws
pub mod StateLaws
pub mod TurnLaws
pub mod RangeLaws
pub mod WorkLaws
pub mod RangesHold
