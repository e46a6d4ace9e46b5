pub mod WalkLaws
pub mod RuleLaws
