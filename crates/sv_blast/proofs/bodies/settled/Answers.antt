use Rattle.std.proofs.Common.{◌≡◌, ℕ, ◌<◌, ◌||◌, List, length, None, sym, ap, subst, ◌∙◌}
use Rattle.std.specs.Prelude.{IsTrue, IfOk}
use Rattle.sv_flat.specs.declared.designs.Flat.{Flat}
use Rattle.sv_flat.specs.declared.signals.Signal.{Signal}
use Rattle.sv_flat.specs.ByNumber.{signal_forms}
use Rattle.sv_flat.specs.Design.{FlatStatement}
use Rattle.sv_flat.specs.Processes.{is_register}
use Rattle.sv_flat.specs.Reads.{is_combinational}
use Rattle.sv_flat.specs.Views.{design_of, signal_form}
use Rattle.sv_design.specs.Designs.{IsDesign}
use Rattle.sv_obl.specs.BodySlices.{SameParts, sliced, driven_body, slice_statement}
use Rattle.sv_obl.specs.MarkedBodies.{IsMarkedFor}
use Rattle.sv_obl.proofs.FormLists.{length_mapped}
use Rattle.sv_gates.specs.Formulas.{Formula, most_variables}
use Rattle.sv_circuits.specs.Words.{Word}
use Rattle.sv_encoding.specs.Bodies.{settled_word}
use Rattle.sv_encoding.specs.Expressions.{Words}
use Rattle.sv_blast.specs.WordTables.{words_of}
use Rattle.sv_blast.specs.TargetWords.{target_word, starting_word, AreReady}
use Rattle.sv_blast.proofs.SliceWords.{known, settled_by_slice, slice_names}
use Rattle.sv_blast.proofs.bodies.settled.Goals as goal
use Rattle.sv_blast.proofs.bodies.settled.Goals.{After-after_slice}

module _ (flat : Flat) (is : IsDesign (design_of flat)) (s : ℕ)
    (driven : IsTrue (is_register (design_of flat) s || is_combinational (design_of flat) s)) where
  target_known : s < length flat.signals.items
  target_known =
      subst (λ n. s < n) (length_mapped signal_form flat.signals.items)
      (known (design_of flat) is s driven)

  -- the word that the slice makes, over the signals and from the word in hand
  from_slice : IsMarkedFor (design_of flat) s None → (words : Words) (f : Formula)
      (body : FlatStatement) → SameParts body (sliced s (driven_body (design_of flat) s)) →
      (signals : List Signal) → signals ≡ flat.signals.items → (start : Word) →
      start ≡ starting_word (design_of flat) words s →
      settled_word (design_of flat) words s f
      ≡ target_word (signal_forms signals) words s body start f
  from_slice unmarked words f body same signals signals_are start start_is =
      settled_by_slice (design_of flat) is s driven unmarked words f body same
      ∙ ap (λ w. target_word (signal_forms flat.signals.items) words s body w f) (sym start_is)
      ∙ ap (λ xs. target_word (signal_forms xs) words s body start f) (sym signals_are)

-- the word by the slice, over what is in hand
by_slice : (c : After-after_slice) →
    settled_word (design_of c.args.fan_in.now.design.now) (words_of c.args.fan_in.now.words.now)
    c.args.target.0 c.args.gates.now
    ≡ target_word (signal_forms c.signals-signals.result.now) (words_of c.args.fan_in.now.words.now)
    c.args.target.0 (slice_statement c.in_ok-slice.slice) c.in_ok-word.word.items c.args.gates.now
by_slice c =
    from_slice c.args.fan_in.now.design.now c.signals-signals.ensures.design c.args.target.0
    c.requires.driven (subst (IsMarkedFor (design_of c.args.fan_in.now.design.now) c.args.target.0)
    c.in_default.is c.marked.ensures.body) (words_of c.args.fan_in.now.words.now) c.args.gates.now
    (slice_statement c.in_ok-slice.slice) c.in_ok-slice.ensures c.signals-signals.result.now
    c.signals-signals.ensures.signals c.in_ok-word.word.items c.in_ok-word.ensures.made

pub marked-requires-clause-known : goal.marked-requires-clause-known
marked-requires-clause-known c =
    target_known c.args.fan_in.now.design.now c.signals-signals.ensures.design _ c.requires.driven

pub slice-requires-clause-known : goal.slice-requires-clause-known
slice-requires-clause-known c =
    target_known c.args.fan_in.now.design.now c.signals-signals.ensures.design _ c.requires.driven

pub starting-requires-clause-known : goal.starting-requires-clause-known
starting-requires-clause-known c =
    target_known c.args.fan_in.now.design.now c.signals-signals.ensures.design _ c.requires.driven

pub after_slice-requires-clause-ready : goal.after_slice-requires-clause-ready
after_slice-requires-clause-ready c =
    let n = c.args.gates.now.variables in
    let words = words_of c.args.fan_in.now.words.now in
    let body = slice_statement c.in_ok-slice.slice in
    subst (λ signals. AreReady (signal_forms signals) n words body)
    (sym c.signals-signals.ensures.signals)
    (slice_names (design_of c.args.fan_in.now.design.now) c.signals-signals.ensures.design c.args.target.0
    c.requires.driven (subst (IsMarkedFor (design_of c.args.fan_in.now.design.now) c.args.target.0)
    c.in_default.is c.marked.ensures.body) n words c.requires.words body
    c.in_ok-slice.ensures)

pub returns-clause-made : goal.returns-clause-made
returns-clause-made c =
    let whole = by_slice (goal.at.returns-clause-made c).After-after_slice in
    subst (λ (z : Formula × Word).
    IfOk c.after_slice.result (λ word. z ≡ (c.after_slice.new.gates, word.items))) (sym whole)
    c.after_slice.ensures.made

pub returns-clause-full : goal.returns-clause-full
returns-clause-full c =
    let whole = by_slice (goal.at.returns-clause-full c).After-after_slice in
    λ e. subst (λ (z : Formula × Word). most_variables < z.0.variables) (sym whole)
    (c.after_slice.ensures.full e)
