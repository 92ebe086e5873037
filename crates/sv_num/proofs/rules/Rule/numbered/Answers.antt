-- The rules of the code are the rules of the definition, and each is found by its number.
use Rattle.std.specs.Prelude.{◌≡◌, find, nat_eq, Some}
use Rattle.std.proofs.Common.{◌∙◌, refl, ap, sym}
use Rattle.sv_num.specs.declared.rules.Rule.{Rule}
use Rattle.sv_num.specs.declared.rules.Rule.TheVariants.{BadByte, BadNumber, OpenComment}
use Rattle.sv_num.specs.declared.rules.Rule.TheVariants.{UnsupportedForm, NotBuilt, Unexpected}
use Rattle.sv_num.specs.declared.rules.Rule.TheVariants.{UnsupportedWord, TooDeep, TooLong}
use Rattle.sv_num.specs.declared.rules.Rule.TheVariants.{LatticeSize, LatticeName, Circle, NoJoin}
use Rattle.sv_num.specs.declared.rules.Rule.TheVariants.{NoMeet, MapName, MapRow, MapHole, NoTop}
use Rattle.sv_num.specs.declared.rules.Rule.TheVariants.{UnknownModule, Twice, Port, Recursive}
use Rattle.sv_num.specs.declared.rules.Rule.TheVariants.{TooMany, Parameter, UnknownName, TooWide}
use Rattle.sv_num.specs.declared.rules.Rule.TheVariants.{BadSelect, NotConstant, ZeroDivisor}
use Rattle.sv_num.specs.declared.rules.Rule.TheVariants.{Division, UnsizedPart, BadCount, BadRange}
use Rattle.sv_num.specs.declared.rules.Rule.TheVariants.{Label, WrongAssign, Clock, Drivers}
use Rattle.sv_num.specs.declared.rules.Rule.TheVariants.{Undriven, Latch, Phase, Loop, FileSize}
use Rattle.sv_num.specs.declared.rules.Rule.TheVariants.{Paths, Obligations, StimulusSize, Gen}
use Rattle.sv_num.specs.declared.rules.Rule.TheVariants.{NoObligation, Level, Encoding, ProofSize}
use Rattle.sv_num.specs.declared.rules.Rule.TheVariants.{StimulusFile, ObligationSize}
use Rattle.sv_num.specs.Rules.{rules, rule_number}
use Rattle.sv_num.proofs.rules.Rule.numbered.Goals as goal

own_number : (rule : Rule) →
    find (λ other. nat_eq (rule_number other) (rule_number rule)) rules ≡ Some rule
unfolding rules
own_number BadByte = refl
own_number BadNumber = refl
own_number OpenComment = refl
own_number UnsupportedForm = refl
own_number NotBuilt = refl
own_number Unexpected = refl
own_number UnsupportedWord = refl
own_number TooDeep = refl
own_number TooLong = refl
own_number LatticeSize = refl
own_number LatticeName = refl
own_number Circle = refl
own_number NoJoin = refl
own_number NoMeet = refl
own_number MapName = refl
own_number MapRow = refl
own_number MapHole = refl
own_number NoTop = refl
own_number UnknownModule = refl
own_number Twice = refl
own_number Port = refl
own_number Recursive = refl
own_number TooMany = refl
own_number Parameter = refl
own_number UnknownName = refl
own_number TooWide = refl
own_number BadSelect = refl
own_number NotConstant = refl
own_number ZeroDivisor = refl
own_number Division = refl
own_number UnsizedPart = refl
own_number BadCount = refl
own_number BadRange = refl
own_number Label = refl
own_number WrongAssign = refl
own_number Clock = refl
own_number Drivers = refl
own_number Undriven = refl
own_number Latch = refl
own_number Phase = refl
own_number Loop = refl
own_number FileSize = refl
own_number Paths = refl
own_number Obligations = refl
own_number StimulusSize = refl
own_number Gen = refl
own_number NoObligation = refl
own_number Level = refl
own_number Encoding = refl
own_number ProofSize = refl
own_number StimulusFile = refl
own_number ObligationSize = refl

pub returns-clause-found : goal.returns-clause-found
unfolding rules
returns-clause-found c = c.copied.ensures ∙ c.rule_among.ensures

pub returns-clause-own : goal.returns-clause-own
unfolding rules
returns-clause-own c rule same = c.copied.ensures ∙ c.rule_among.ensures
    ∙ ap (λ n. find (λ other. nat_eq (rule_number other) n) rules) (sym same) ∙ own_number rule
