pub mod Rows
pub mod Members
pub mod GrammarReads
pub mod GrammarReadsExpressions
pub mod GrammarReadsStatements
pub mod GrammarReadsModules
pub mod GrammarComputed
pub mod GrammarWider
pub mod GrammarWiderTexts
pub mod GrammarNesting
pub mod GrammarOneToken
pub mod GrammarOneOperand
pub mod GrammarOneExpression
pub mod GrammarOneBefore
pub mod GrammarLaws
mod MadeAlike
pub mod SyntaxLaws
mod GrammarExamples
mod GrammarTexts
mod GrammarRefusals
mod ValueExamples
mod SmallTrees
mod InstanceExamples
mod RunExamples
mod LabelExamples
mod DesignExamples
mod PartExamples
pub mod Reaching
pub mod PathNames
pub mod RunFrames
