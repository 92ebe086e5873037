-- Names and expressions in which earlier reads are wanted.
use Rattle.std.proofs.Common.{◌≡◌, ℕ, ◌+◌, ◌<◌, ◌≤◌, Bool, true, false, ◌&&◌, cond, nat_le, nat_lt}
use Rattle.std.proofs.Common.{List, [], ◌∷◌, map, length, get_or, refl, sym, ap, subst, ◌∙◌}
use Rattle.std.proofs.Common.{Vec, Global}
use Rattle.std.proofs.lemmas.List.{length-map, get_or-map}
use Rattle.std.specs.Prelude.{IsTrue, ◌↔◌}
use Rattle.sv_flat.specs.ByNumber.{signal_forms, AreWords}
use Rattle.sv_flat.specs.declared.signals.Signal.{Signal}
use Rattle.sv_flat.specs.declared.expressions.FExpr.{FExpr}
use Rattle.sv_flat.specs.declared.expressions.FNode.TheBlock.{hidden-the_row-FExpr-0}
use Rattle.sv_flat.specs.Design.{SignalForm, TypedTree, more_parts}
use Rattle.sv_flat.specs.Readings.{ReadForm, BitSet}
use Rattle.sv_flat.specs.Values.{signal_of, signal_width}
use Rattle.sv_flat.specs.Views.{signal_form, typed_trees, parts_of, row_parts}
use Rattle.sv_flat.proofs.Rows.{row_parts-hidden}
use Rattle.sv_graph.specs.BitSets.{is_set, SharesBit}
use Rattle.sv_rules.proofs.PhaseFacts.{read_shares}
use Rattle.sv_obl.specs.Exchange.{Instead, exchanged, exchanged_parts}
use Rattle.sv_obl.specs.Later.{marked_name}
use Rattle.sv_obl.specs.Wanted.{copy_of}

module _ (signals : List SignalForm) (follows : BitSet) (r : ReadForm) (bits around : ℕ)
    (bits_are : (b : ℕ) → is_set bits b ≡
    (nat_le r.low b && nat_le b r.high && nat_lt b (signal_width signals r.signal)))
    (around_is : (b : ℕ) → is_set around b ≡ follows r.signal b)
    (answer : Bool) (is : IsTrue answer ↔ SharesBit bits around) where
  pub name_is : cond answer (copy_of signals r.signal) r.signal ≡ marked_name signals follows r
  name_is = ap (λ b. cond b (copy_of signals r.signal) r.signal)
      (read_shares signals r bits bits_are around (follows r.signal) around_is answer is)

-- ---- a signal by its number

module _ (items : List Signal) (x : Signal) (r : ReadForm) (inside : r.signal < length items) where
  signal_at : signal_of (signal_forms items) r.signal ≡ signal_form (get_or items r.signal x)
  signal_at = get_or-map signal_form items r.signal x _ inside

  width_at : signal_width (signal_forms items) r.signal ≡ (get_or items r.signal x).width
  width_at = ap (λ (z : SignalForm). z.width) signal_at

  -- it has no more bits than a word
  pub few_at : AreWords (signal_forms items) → (get_or items r.signal x).width ≤ 64
  few_at words = subst (λ w. w ≤ 64) width_at (words r.signal (rw length-map inside))

  -- its name, where the bits that are read and those around are numbers
  module _ (later : BitSet) (bits around : ℕ)
      (bits_are : (b : ℕ) → is_set bits b ≡
      (nat_le r.low b && nat_le b r.high && nat_lt b (get_or items r.signal x).width))
      (around_is : (b : ℕ) → is_set around b ≡ later r.signal b)
      (answer : Bool) (tells : IsTrue answer ↔ SharesBit bits around) where
    named_is : cond answer (copy_of (signal_forms items) r.signal) r.signal
        ≡ marked_name (signal_forms items) later r
    named_is = name_is (signal_forms items) later r bits around
        (λ b. bits_are b ∙ ap (λ w. nat_le r.low b && nat_le b r.high && nat_lt b w)
        (sym width_at))
        around_is answer tells

    pub named_copy : answer ≡ true → length items + r.signal
        ≡ marked_name (signal_forms items) later r
    named_copy so =
        ap (λ n. n + r.signal) (sym (length-map items signal_form))
        ∙ ap (λ b. cond b (copy_of (signal_forms items) r.signal) r.signal) (sym so)
        ∙ named_is

    pub named_itself : answer ≡ false → r.signal ≡ marked_name (signal_forms items) later r
    named_itself so =
        ap (λ b. cond b (copy_of (signal_forms items) r.signal) r.signal) (sym so) ∙ named_is

-- ---- parts

-- parts, each with something done to it
pub parts_exchanged : (signals : List SignalForm) (instead : ReadForm → Instead)
    (ts : List TypedTree)
    → parts_of (map (exchanged signals instead) ts) ≡ exchanged_parts signals instead (parts_of ts)
parts_exchanged signals instead [] = refl
parts_exchanged signals instead (t ∷ ts) =
    ap (more_parts (exchanged signals instead t)) (parts_exchanged signals instead ts)

-- the parts of a join or replication
pub row_exchanged : (signals : List SignalForm) (instead : ReadForm → Instead)
    (made given : Vec FExpr Global) (items : List FExpr) → items ≡ given.items
    → typed_trees made.items ≡ map (exchanged signals instead) (typed_trees items)
    → row_parts (hidden-the_row-FExpr-0 made)
    ≡ exchanged_parts signals instead (row_parts (hidden-the_row-FExpr-0 given))
row_exchanged signals instead made given items same is =
    row_parts-hidden made
    ∙ ap parts_of (is ∙ ap (λ es. map (exchanged signals instead) (typed_trees es)) same)
    ∙ parts_exchanged signals instead (typed_trees given.items)
    ∙ ap (exchanged_parts signals instead) (sym (row_parts-hidden given))
