pub mod EditLaws
pub mod RuleLaws
pub mod RepeatLaws
pub mod SimpleLaws
pub mod ValidLaws
pub mod BesideLaws
pub mod StretchLaws
pub mod WholeLaws
