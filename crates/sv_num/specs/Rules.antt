-- The rules that a text can break, and the limits that it can exceed: each with its number and name.
use Rattle.std.specs.Prelude.{ℕ, List, [], ◌∷◌, codes}
use Rattle.sv_num.specs.declared.rules.Rule.{Rule}
use Rattle.sv_num.specs.declared.rules.Rule.TheVariants.{BadByte, BadNumber, OpenComment}
use Rattle.sv_num.specs.declared.rules.Rule.TheVariants.{UnsupportedForm, NotBuilt, Unexpected}
use Rattle.sv_num.specs.declared.rules.Rule.TheVariants.{UnsupportedWord, TooDeep, TooLong}
use Rattle.sv_num.specs.declared.rules.Rule.TheVariants.{LatticeSize, LatticeName, Circle, NoJoin}
use Rattle.sv_num.specs.declared.rules.Rule.TheVariants.{NoMeet, MapName, MapRow, MapHole, NoTop}
use Rattle.sv_num.specs.declared.rules.Rule.TheVariants.{UnknownModule, Twice, Port, Recursive}
use Rattle.sv_num.specs.declared.rules.Rule.TheVariants.{TooMany, Parameter, UnknownName, TooWide}
use Rattle.sv_num.specs.declared.rules.Rule.TheVariants.{BadSelect, NotConstant, ZeroDivisor}
use Rattle.sv_num.specs.declared.rules.Rule.TheVariants.{Division, UnsizedPart, BadCount, BadRange}
use Rattle.sv_num.specs.declared.rules.Rule.TheVariants.{Label, WrongAssign, Clock, Drivers}
use Rattle.sv_num.specs.declared.rules.Rule.TheVariants.{Undriven, Latch, Phase, Loop, FileSize}
use Rattle.sv_num.specs.declared.rules.Rule.TheVariants.{Paths, Obligations, StimulusSize, Gen}
use Rattle.sv_num.specs.declared.rules.Rule.TheVariants.{NoObligation, Level, Encoding, ProofSize}
use Rattle.sv_num.specs.declared.rules.Rule.TheVariants.{StimulusFile, ObligationSize}

abbrev pub rule_row : Rule → ℕ × List ℕ
-- on tokens
rule_row BadByte = (101, codes "bad-byte")
rule_row BadNumber = (102, codes "bad-number")
rule_row OpenComment = (103, codes "open-comment")
rule_row UnsupportedForm = (104, codes "unsupported")
-- a text with an item, or of a form, that is not built so far
rule_row NotBuilt = (199, codes "not-built")
-- on the grammar
rule_row Unexpected = (201, codes "unexpected")
rule_row UnsupportedWord = (202, codes "unsupported")
rule_row TooDeep = (203, codes "too-deep")
rule_row TooLong = (204, codes "too-long")
-- on lattices, label maps, modules and parameters
rule_row LatticeSize = (301, codes "lattice-size")
rule_row LatticeName = (302, codes "lattice-name")
rule_row Circle = (303, codes "circle")
rule_row NoJoin = (304, codes "no-join")
rule_row NoMeet = (305, codes "no-meet")
rule_row MapName = (306, codes "map-name")
rule_row MapRow = (307, codes "map-row")
rule_row MapHole = (308, codes "map-hole")
rule_row NoTop = (310, codes "no-top")
rule_row UnknownModule = (311, codes "unknown-module")
rule_row Twice = (312, codes "twice")
rule_row Port = (313, codes "port")
rule_row Recursive = (314, codes "recursive")
rule_row TooMany = (315, codes "too-many")
rule_row Parameter = (316, codes "parameter")
-- on names, lengths and labels
rule_row UnknownName = (401, codes "unknown-name")
rule_row TooWide = (402, codes "too-wide")
rule_row BadSelect = (403, codes "bad-select")
rule_row NotConstant = (404, codes "not-constant")
rule_row ZeroDivisor = (405, codes "zero-divisor")
rule_row Division = (406, codes "division")
rule_row UnsizedPart = (407, codes "unsized-part")
rule_row BadCount = (408, codes "bad-count")
rule_row BadRange = (409, codes "bad-range")
rule_row Label = (410, codes "label")
-- on drivers, clocks and circles
rule_row WrongAssign = (601, codes "wrong-assign")
rule_row Clock = (602, codes "clock")
rule_row Drivers = (603, codes "drivers")
rule_row Undriven = (604, codes "undriven")
rule_row Latch = (605, codes "latch")
rule_row Phase = (606, codes "phase")
rule_row Loop = (607, codes "loop")
-- limits, which are told without a place
rule_row FileSize = (701, codes "file-size")
rule_row Paths = (702, codes "paths")
rule_row Obligations = (703, codes "obligations")
rule_row StimulusSize = (704, codes "stimulus-size")
rule_row Gen = (705, codes "gen")
rule_row NoObligation = (706, codes "no-obligation")
rule_row Level = (707, codes "level")
rule_row Encoding = (709, codes "encoding")
rule_row ProofSize = (710, codes "proof-size")
rule_row StimulusFile = (711, codes "stimulus-file")
rule_row ObligationSize = (712, codes "obligation-size")

abbrev pub rule_number : Rule → ℕ
rule_number rule = (rule_row rule).0

abbrev pub rule_name : Rule → List ℕ
rule_name rule = (rule_row rule).1

-- all of them, in the order of their numbers
unfoldable pub rules : List Rule
rules =
    BadByte ∷ BadNumber ∷ OpenComment ∷ UnsupportedForm ∷ NotBuilt ∷ Unexpected ∷ UnsupportedWord ∷
    TooDeep ∷ TooLong ∷ LatticeSize ∷ LatticeName ∷ Circle ∷ NoJoin ∷ NoMeet ∷ MapName ∷ MapRow ∷
    MapHole ∷ NoTop ∷ UnknownModule ∷ Twice ∷ Port ∷ Recursive ∷ TooMany ∷ Parameter ∷
    UnknownName ∷ TooWide ∷ BadSelect ∷ NotConstant ∷ ZeroDivisor ∷ Division ∷ UnsizedPart ∷
    BadCount ∷ BadRange ∷ Label ∷ WrongAssign ∷ Clock ∷ Drivers ∷ Undriven ∷ Latch ∷ Phase ∷ Loop ∷
    FileSize ∷ Paths ∷ Obligations ∷ StimulusSize ∷ Gen ∷ NoObligation ∷ Level ∷ Encoding ∷
    ProofSize ∷ StimulusFile ∷ ObligationSize ∷ []
