pub mod TestLaws
pub mod RegisterLaws
pub mod SignedLaws
pub mod WordLaws
pub mod BitLaws
pub mod SwapLaws
pub mod RaisedLaws
