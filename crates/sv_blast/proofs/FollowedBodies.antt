-- The word of a signal whose process has an earlier read: from the words of what is read for it, by
-- the body with such reads wanted.
use Rattle.std.proofs.Common.{◌≡◌, ℕ, ◌<◌, ◌≤◌, ◌==◌, ◌⊎◌, inl, inr, ⊎_elim}
use Rattle.std.proofs.Common.{Bool, true, false, cond, List, length, replicate, refl, sym, ap}
use Rattle.std.proofs.Common.{ap₂, subst, ◌∙◌}
use Rattle.std.specs.Prelude.{Contains, IsTrue, IsFalse}
use Rattle.std.specs.List.{list_all}
use Rattle.std.proofs.lemmas.Bool.{false≢true, eqb-true}
use Rattle.std.proofs.lemmas.List.{length-replicate}
use Rattle.sv_flat.specs.Design.{SignalForm, TypedTree, typed, PieceForm, FlatStatement}
use Rattle.sv_flat.specs.Design.{ProcessKind, continuous, port_in, port_out}
use Rattle.sv_flat.specs.Design.{combinational, clocked, release, ProcessForm, FlatDesign}
use Rattle.sv_flat.specs.Values.{signal_width}
use Rattle.sv_flat.specs.Soundness.{piece_fits, well_formed, statement_sound}
use Rattle.sv_flat.specs.Assigned.{assigns}
use Rattle.sv_flat.specs.Readings.{ReadForm, reads, BitSet, no_bits, Reading, readings_of}
use Rattle.sv_flat.specs.Readings.{readings}
use Rattle.sv_flat.specs.Processes.{is_clocked, is_block}
use Rattle.sv_flat.specs.Clocks.{processes_of}
use Rattle.sv_flat.specs.Reads.{followed, is_read_for, reads_for, process_readings}
use Rattle.sv_flat.specs.Reads.{is_earlier}
use Rattle.sv_flat.proofs.LeastSets.{from_some, either_way, in_those, those_below, those_pass}
use Rattle.sv_flat.proofs.AdmittedFacts.{body_is_sound}
use Rattle.sv_flat.proofs.BlockFacts.{follows_itself, follows_earlier, settled_is_read}
use Rattle.sv_design.specs.Designs.{IsDesign}
use Rattle.sv_obl.specs.BodySlices.{SameParts}
use Rattle.sv_obl.specs.Wanted.{with_copies, copy_of, is_copy, original, mark, marked_tree, marked}
use Rattle.sv_obl.proofs.PathLists.{cond_true, cond_false}
use Rattle.sv_obl.proofs.PutFacts.{width_settled, width_copy, copy_is_copy}
use Rattle.sv_obl.proofs.PutFacts.{original_of_copy, signal_is_settled}
use Rattle.sv_obl.proofs.TreeFacts.{exchanged_names}
use Rattle.sv_gates.specs.Formulas.{Formula}
use Rattle.sv_gates.specs.Gates.{false_literal}
use Rattle.sv_gates.proofs.GateLaws.{literal_more}
use Rattle.sv_circuits.specs.Circuits.{IsWord}
use Rattle.sv_circuits.specs.Words.{Word}
use Rattle.sv_circuits.proofs.BitPieces.{false_is}
use Rattle.sv_circuits.proofs.WordKeeps.{word_same}
use Rattle.sv_encoding.specs.Expressions.{Words}
use Rattle.sv_encoding.specs.Bodies.{words_after, starting_words, driven_word}
use Rattle.sv_encoding.specs.Sizes.{process_size, statement_size}
use Rattle.sv_encoding_laws.proofs.MarkedReads.{same_width, ReadsCount, marked_fit}
use Rattle.sv_encoding_laws.proofs.MarkedReads.{marked_body_fits}
use Rattle.sv_encoding_laws.proofs.Renamed.{formed_instead}
use Rattle.sv_blast.specs.WordTables.{StandForReads}
use Rattle.sv_blast.specs.FollowedWords.{AllStand, IsFit, AreFit, AtHand}
use Rattle.sv_blast.proofs.FollowedNames.{Agree, after_same}
use Rattle.sv_blast.proofs.FollowedParts.{same_fit, same_words, same_size}

-- no block is clocked
block_is_unclocked : (k : ProcessKind) → IsTrue (is_block k) → IsFalse (is_clocked k)
block_is_unclocked combinational h = refl
block_is_unclocked continuous h = absurd (false≢true h)
block_is_unclocked port_in h = absurd (false≢true h)
block_is_unclocked port_out h = absurd (false≢true h)
block_is_unclocked (clocked clock) h = absurd (false≢true h)
block_is_unclocked (release point) h = absurd (false≢true h)

module _ (design : FlatDesign) (is : IsDesign design) where
  abbrev signals : List SignalForm
  signals = design.signals

  abbrev both : List SignalForm
  both = with_copies design.signals

  module _ (p : ProcessForm) (s : ℕ) (at : Contains (processes_of design) p)
      (own : IsTrue (assigns p.body s)) where
    abbrev targets : List ℕ
    targets = followed design p s

    abbrev Hand : ℕ → Type 0
    Hand = AtHand design.signals (reads_for design s) (followed design p s)

    copies : (u : ℕ) → Contains (followed design p s) u → Hand (copy_of design.signals u)
    copies u inside = inr (u, inside, refl)

    -- ---- the marked body

    abbrev Count : List Reading → Type 0
    Count = ReadsCount design p s

    body_counts : Count (process_readings design p)
    body_counts r r_at u u_at served = ⊎_elim
        (λ earlier. inr (
          earlier,
          follows_earlier design is.is_sound is.is_admitted p at s own u u_at r r_at served earlier,
        ))
        (λ late. inl (
          late,
          settled_is_read design is.is_sound is.is_admitted p at s own u u_at r r_at served late,
        ))
        (either_way (is_earlier design p r))

    tree_fits : (e : TypedTree) (serves : ℕ → Bool) (early follows : BitSet) →
        IsTrue (well_formed signals e) → (u : ℕ) → Contains targets u → IsTrue (serves u) →
        Count (readings_of signals e serves early follows) →
        IsFit signals Hand (marked_tree signals (is_block p.kind) follows e)
    tree_fits e serves early follows formed u u_at served count =
        let instead = mark signals (is_block p.kind) follows in
        let all = marked_fit design p s Hand
        (λ t low settled. inl (in_those (length signals) (is_read_for design s) t low settled))
        copies e serves early follows formed u u_at served count in (
          formed_instead signals both instead Hand (same_width design) e formed all,
          λ t named.
              let found = from_some (λ (r : ReadForm). r.signal == t)
              (reads both (marked_tree signals (is_block p.kind) follows e)) named in
              let from = exchanged_names signals both instead e t
              (found.0, found.1, eqb-true (found.0).signal t found.2) in
              subst Hand from.2 (all from.0 from.1).1.1,
        )

    -- marks do not change the length of a right side
    pieces_fit : (e : TypedTree) (follows : BitSet) (pieces : List PieceForm) →
        IsTrue (list_all (piece_fits signals e) pieces) →
        IsTrue (list_all (piece_fits signals (marked_tree signals (is_block p.kind) follows e))
        pieces)
    pieces_fit (typed width signed node) follows pieces fit = fit

    marked_fits : (b : FlatStatement) (early later : BitSet) → IsTrue (statement_sound signals b) →
        Count (readings signals b early later) →
        AreFit signals targets Hand (marked signals (is_block p.kind) b later)
    marked_fits =
        marked_body_fits design p s (IsFit signals Hand) (AreFit signals targets Hand) tree_fits tt
        (λ a b x y. (x, y))
        (λ pieces place blocking e follows all tree some.
        (tree some, pieces_fit e follows pieces all))
        (λ place condition a b tree x y. (tree, (x, y)))

    abbrev marked_body : FlatStatement
    marked_body = marked signals (is_block p.kind) p.body no_bits

    body_fits : AreFit design.signals (followed design p s) Hand
        (marked design.signals (is_block p.kind) p.body no_bits)
    body_fits =
        marked_fits p.body no_bits no_bits (body_is_sound design is.is_sound is.is_admitted p at)
        body_counts

    -- ---- where the process begins

    module _ (block : IsTrue (is_block p.kind)) (words own_words : Words)
        (same : (t : ℕ) → Contains (reads_for design s) t → own_words t ≡ words t)
        (clear : (u : ℕ) → Contains (followed design p s) u →
        own_words (copy_of design.signals u)
        ≡ replicate (signal_width design.signals u) false_literal) where
      known : (t : ℕ) → Contains (reads_for design s) t → t < length signals
      known t inside = those_below (length signals) (is_read_for design s) t inside

      pub own_stand : (n : ℕ) → 1 ≤ n → StandForReads design n words s →
          AllStand design.signals
          (AtHand design.signals (reads_for design s) (followed design p s)) n own_words
      own_stand n some has t (inl inside) =
          let there = has t (those_pass (length signals) (is_read_for design s) t inside) in (
            subst (IsWord n) (sym (same t inside)) there.0,
            ap length (same t inside) ∙ there.1 ∙ sym (width_settled signals t (known t inside)),
          )
      own_stand n some has t (inr (u, inside, e)) =
          let width = signal_width signals u in
          subst (λ k. IsWord n (own_words k) × (length (own_words k) ≡ signal_width both k)) e (
            subst (IsWord n) (sym (clear u inside))
                (word_same n width false_literal (literal_more 1 n false_literal some false_is)),
            ap length (clear u inside) ∙ length-replicate width false_literal
                ∙ sym (width_copy signals u),
          )

      abbrev begun : Words
      begun = starting_words signals (is_clocked p.kind) words

      agrees : Agree signals targets Hand copies begun own_words
      agrees t (inl inside) =
          cond_false (is_copy signals t)
          (cond (is_clocked p.kind) (words (original signals t))
          (replicate (signal_width signals (original signals t)) false_literal)) (words t)
          (signal_is_settled signals t (known t inside))
          ∙ sym (same t inside)
      agrees t (inr (u, inside, e)) =
          subst (λ k. begun k ≡ own_words k) e
          (cond_true (is_copy signals (copy_of signals u))
          (cond (is_clocked p.kind) (words (original signals (copy_of signals u)))
          (replicate (signal_width signals (original signals (copy_of signals u))) false_literal))
          (words (copy_of signals u)) (copy_is_copy signals u)
          ∙ cond_false (is_clocked p.kind) (words (original signals (copy_of signals u)))
          (replicate (signal_width signals (original signals (copy_of signals u))) false_literal)
          (block_is_unclocked p.kind block)
          ∙ ap (λ k. replicate (signal_width signals k) false_literal) (original_of_copy signals u)
          ∙ sym (clear u inside))

      pub driven_followed : (b : FlatStatement) → SameParts b
          (marked design.signals (is_block p.kind) p.body no_bits) → (f : Formula) →
          driven_word design s p words f
          ≡ (let made = words_after design.signals (followed design p s) b own_words f in
          (made.0, made.1 (copy_of design.signals s)))
      driven_followed b parts f =
          let begins = after_same signals targets Hand copies marked_body body_fits begun own_words
          agrees f in
          ap₂ (λ (g : Formula) (w : Word). (g, w)) begins.0
          (begins.1 (copy_of signals s)
          (copies s (follows_itself design is.is_sound is.is_admitted p at s own)))
          ∙ ap (λ (z : Formula × Words). (z.0, z.1 (copy_of signals s)))
          (sym (same_words signals targets b marked_body parts own_words f))

    -- ---- what a body of the same parts needs and takes

    module _ (b : FlatStatement)
        (parts : SameParts b (marked design.signals (is_block p.kind) p.body no_bits)) where
      pub parts_fit : AreFit design.signals (followed design p s)
          (AtHand design.signals (reads_for design s) (followed design p s)) b
      parts_fit = same_fit signals targets Hand b marked_body parts body_fits

      pub parts_size : process_size design s p ≡ statement_size design.signals (followed design p s) b
      parts_size = sym (same_size signals targets b marked_body parts)
