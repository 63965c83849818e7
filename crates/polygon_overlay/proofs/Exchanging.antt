-- Rules, directions and counts that are exchanged.
pub mod OtherCountLaws
pub mod ExchangeLaws
pub mod AlikeLaws
