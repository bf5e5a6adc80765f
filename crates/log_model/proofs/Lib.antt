pub mod Laws
pub mod EventLaws
pub mod Refl
pub mod LegalLaws
pub mod FurtherLaws
pub mod ShownLaws
