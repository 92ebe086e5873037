-- What is put into objects has no float, so its text is known.
use Rattle.std.proofs.Common.{◌≡◌, ℕ, List, [], ◌∷◌, Bool, true, false, String, Global}
use Rattle.std.proofs.Common.{Ordering, Less, Equal, Greater, string_bytes, refl, ap, ap₂, ◌∙◌}
use Rattle.std.proofs.Common.{rules}
use Rattle.std.specs.Prelude.{map, ◌||◌}
use Rattle.std.specs.Cmp.Lexicographic.{slice_cmp}
use Rattle.std.specs.Ordering.{nat_cmp, match_ordering}
use Rattle.serde_json.specs.Data.{Data, string, Members, no_members, member, put}
use Rattle.serde_json.specs.View.{view, items_of}
use Rattle.serde_json.specs.Written.{has_float, items_have_float, members_have_float}
use Rattle.serde_json.specs.declared.value.Value.{String as Text, the_lemmas}
use Rattle.sv_num.specs.declared.faults.Place.{Place}
use Rattle.sv_flat.specs.declared.signals.Signal.{Signal}
use Rattle.sv_flat.specs.ByNumber.{signal_forms}
use Rattle.sv_flat.specs.Design.{SignalForm, FlatDesign}
use Rattle.sv_flat.specs.SignalLists.{registers, inputs}
use Rattle.sv_obl.specs.declared.frames.Frame.{Frame}
use Rattle.sv_obl.specs.declared.frames.Frame.TheVariants.{Now, Next}
use Rattle.sv_obl.specs.declared.valuations.Valuation.{Valuation as Listed}
use Rattle.sv_obl.specs.Obligations.{GoalForm}
use Rattle.sv_obl.specs.Validity.{goal_frame}
use Rattle.sv_report.specs.JsonTexts.{put_all, name_data, names_data, value_pairs, values_data}
use Rattle.sv_report.specs.JsonTexts.{refusal_data, limit_data, next_data, flow_data}

-- a text as the code holds it
pub view_text : (s : String Global) → view (Text s) ≡ string (string_bytes s)
view_text s = search (rules, the_lemmas)

pub same_values : (signals others : List Signal) (listed those values : List ℕ)
    → signals ≡ others → listed ≡ those
    → values_data (signal_forms signals) listed values
    ≡ values_data (signal_forms others) those values
same_values signals others listed those values is are =
    ap (λ (zs : List Signal). values_data (signal_forms zs) listed values) is
    ∙ ap (λ ss. values_data (signal_forms others) ss values) are

-- what is put among members
pub put_in : (key : List ℕ) {d e : Data} {old others new : Members} → new ≡ put key d old
    → d ≡ e → old ≡ others → new ≡ put key e others
put_in key is same before = is ∙ ap₂ (put key) same before

-- ---- one of two, and none

first_not : (a b : Bool) → (a || b) ≡ false → a ≡ false
first_not true b neither = neither
first_not false b neither = refl

second_not : (a b : Bool) → (a || b) ≡ false → b ≡ false
second_not true true neither = neither
second_not true false neither = refl
second_not false b neither = neither

none_of : (a b : Bool) → a ≡ false → b ≡ false → (a || b) ≡ false
none_of true b first second = first
none_of false b first second = second

-- ---- objects

any_order : (o : Ordering) (a b c : Members) → members_have_float a ≡ false
    → members_have_float b ≡ false → members_have_float c ≡ false
    → members_have_float (match_ordering o a b c) ≡ false
any_order Less a b c first second third = first
any_order Equal a b c first second third = second
any_order Greater a b c first second third = third

put_whole : (key : List ℕ) (d : Data) (ms : Members) → has_float d ≡ false
    → members_have_float ms ≡ false → members_have_float (put key d ms) ≡ false
put_whole key d no_members one rest = none_of (has_float d) false one refl
put_whole key d (member l e ms) one rest =
    let here = first_not (has_float e) (members_have_float ms) rest in
    let behind = second_not (has_float e) (members_have_float ms) rest in
    any_order (slice_cmp nat_cmp key l) (member key d (member l e ms)) (member l d ms)
    (member l e (put key d ms))
    (none_of (has_float d) (has_float e || members_have_float ms) one rest)
    (none_of (has_float d) (members_have_float ms) one behind)
    (none_of (has_float e) (members_have_float (put key d ms)) here
    (put_whole key d ms one behind))

pairs_whole : (signals : List SignalForm) (listed values : List ℕ) (ms : Members)
    → members_have_float ms ≡ false
    → members_have_float (put_all (value_pairs signals listed values) ms) ≡ false
pairs_whole signals [] values ms whole = whole
pairs_whole signals (s ∷ listed) [] ms whole = whole
pairs_whole signals (s ∷ listed) (value ∷ values) ms whole =
    pairs_whole signals listed values _ (put_whole _ _ ms refl whole)

values_whole : (signals : List SignalForm) (listed values : List ℕ)
    → has_float (values_data signals listed values) ≡ false
values_whole signals listed values = pairs_whole signals listed values no_members refl

next_whole : (design : FlatDesign) (frame : Frame) (v : Listed)
    → has_float (next_data design frame v) ≡ false
next_whole design Now v = refl
next_whole design Next v = values_whole design.signals (inputs design) v.next_inputs.items

-- ---- what is told

listed_whole : (names : List (List ℕ)) → items_have_float (items_of (map name_data names)) ≡ false
listed_whole [] = refl
listed_whole (name ∷ names) = listed_whole names

pub refusal_whole : (number : ℕ) (place : Place) (names : List (List ℕ))
    → has_float (refusal_data number place names) ≡ false
refusal_whole number place names =
    none_of (has_float (names_data names)) false (listed_whole names) refl

pub limit_whole : (number : ℕ) (names : List (List ℕ))
    → has_float (limit_data number names) ≡ false
limit_whole number names =
    none_of (has_float (names_data names)) false (listed_whole names) refl

pub flow_whole : (design : FlatDesign) (number : ℕ) (goal : GoalForm) (read : ℕ) (v : Listed)
    → has_float (flow_data design number goal read v) ≡ false
flow_whole design number goal read v =
    let regs = has_float (values_data design.signals (registers design) v.regs.items) in
    let now = has_float (values_data design.signals (inputs design) v.inputs.items) in
    let next = has_float (next_data design (goal_frame goal) v) in
    none_of now (next || (regs || false))
    (values_whole design.signals (inputs design) v.inputs.items)
    (none_of next (regs || false) (next_whole design (goal_frame goal) v)
    (none_of regs false (values_whole design.signals (registers design) v.regs.items) refl))
