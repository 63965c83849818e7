-- Relations of a subject and a clip.
pub mod MergeLaws
pub mod TellingLaws
pub mod RelationLaws
pub mod AgreementLaws
pub mod ThinnedLaws
pub mod ApartLaws
pub mod ReachLaws
