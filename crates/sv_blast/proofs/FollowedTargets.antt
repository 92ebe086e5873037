-- The word of a signal whose process has an earlier read, as the calls make it: over the signals that
-- they hold, from a table of their own.
use Rattle.std.proofs.Common.{◌≡◌, ℕ, ◌<◌, ◌≤◌, ◌||◌, List, [], ◌∷◌, length, replicate, sym, ap, subst}
use Rattle.std.proofs.Common.{◌∙◌, refl, Bor, Option, Some, None, is_some}
use Rattle.std.specs.Prelude.{Contains, IsTrue}
use Rattle.std.proofs.lemmas.Bool.{false≢true}
use Rattle.sv_flat.specs.Design.{ProcessForm, SignalForm, FlatDesign, continuous, nothing}
use Rattle.sv_flat.specs.Values.{signal_width}
use Rattle.sv_flat.specs.Soundness.{is_signal}
use Rattle.sv_flat.specs.Assigned.{assigns}
use Rattle.sv_flat.specs.Clocks.{processes_of}
use Rattle.sv_flat.specs.Processes.{is_block, is_register, drivers}
use Rattle.sv_flat.specs.Readings.{no_bits}
use Rattle.sv_flat.specs.Reads.{followed, is_combinational, is_read_for, reads_for}
use Rattle.sv_flat.specs.SignalLists.{driver_of}
use Rattle.sv_flat.proofs.BlockFacts.{follows_itself}
use Rattle.sv_flat.proofs.LeastSets.{those_below, those_pass}
use Rattle.sv_design.specs.Designs.{IsDesign}
use Rattle.sv_graph.specs.Marks.{is_marked}
use Rattle.sv_design.specs.Numbers.{numbers}
use Rattle.sv_obl.specs.declared.marked.Marked.{Marked}
use Rattle.sv_obl.specs.MarkedBodies.{IsMarkedFor, IsMarkedOf, marked_statement}
use Rattle.sv_obl.specs.Wanted.{copy_of, marked}
use Rattle.sv_obl.proofs.OneDriver.{one_driver_at}
use Rattle.sv_gates.specs.Formulas.{Formula}
use Rattle.sv_gates.specs.Gates.{false_literal}
use Rattle.sv_encoding.specs.Bodies.{settled_word, word_by_first, words_after}
use Rattle.sv_encoding.specs.Expressions.{Words}
use Rattle.sv_encoding.specs.Sizes.{signal_size, size_of_first, statement_size}
use Rattle.sv_blast.specs.declared.followed.Followed.{Followed}
use Rattle.sv_blast.specs.WordTables.{StandForReads}
use Rattle.sv_blast.specs.FollowedWords.{forms_in, follows_in, AtHand, IsAtHand, AllStand, AreFit}
use Rattle.sv_blast.proofs.FollowedBodies.{own_stand, driven_followed, parts_fit, parts_size}
use Rattle.sv_blast.proofs.SliceWords.{driver}

-- a signal with its process, whose body this is with its earlier reads wanted, and what is held of
-- the signals
pub record IsTarget (design : FlatDesign) (s : ℕ) (x : Marked) (self : Followed) : Type 0 where
  pub is : IsDesign design
  pub process : ProcessForm
  pub at : Contains (processes_of design) process
  pub own : IsTrue (assigns process.body s)
  pub alone : drivers (processes_of design) s ≡ process ∷ []
  pub body : IsMarkedOf (marked design.signals (is_block process.kind) process.body no_bits) x
  pub block : IsTrue (is_block process.kind)
  pub forms : forms_in self ≡ design.signals
  pub reads : numbers self.reads.now ≡ reads_for design s
  pub follows : follows_in self ≡ followed design process s

module _ (design : FlatDesign) (is : IsDesign design) (s : ℕ) (x : Bor Marked)
    (body : IsMarkedFor design s (Some x)) (self : Followed) (forms : forms_in self ≡ design.signals)
    (reads : numbers self.reads.now ≡ reads_for design s)
    (follows : (p : ProcessForm) → Contains (processes_of design) p → IsTrue (assigns p.body s) →
    follows_in self ≡ followed design p s) where
  by_process : (p : ProcessForm) → Contains (processes_of design) p → IsTrue (assigns p.body s) →
      drivers (processes_of design) s ≡ p ∷ [] → IsTarget design s x.now self
  by_process p at own alone =
      let marked_body = body p at own in
      record {
        is = is;
        process = p;
        at = at;
        own = own;
        alone = alone;
        body = marked_body.0;
        block = marked_body.1;
        forms = forms;
        reads = reads;
        follows = follows p at own;
      }

  -- a register or a combinational signal
  pub driven_target : IsTrue (is_register design s || is_combinational design s) →
      IsTarget design s x.now self
  driven_target driven =
      let by = driver design is s driven in by_process by.process by.at by.own by.alone

  -- a signal with a driver
  pub found_target : IsTrue (is_signal design.signals s) → IsTrue (is_some (driver_of design s)) →
      IsTarget design s x.now self
  found_target known some = by (driver_of design s) refl some
    where
      no_process : ProcessForm
      no_process = record {
        kind = continuous;
        place = record { line = 0; column = 0 };
        body = nothing;
      }

      by : (place : Option ℕ) → driver_of design s ≡ place → IsTrue (is_some place) →
          IsTarget design s x.now self
      by None is_none h = absurd (false≢true h)
      by (Some k) found h =
          let one = one_driver_at design is.is_sound is.is_admitted s known k no_process found in
          by_process _ one.0 one.1 one.2

module _ (design : FlatDesign) (s : ℕ) (x : Marked) (self : Followed)
    (target : IsTarget design s x self) where
  -- what holds of the design's signals holds of those that are held
  to_self : (P : List SignalForm → List ℕ → List ℕ → Type 0) →
      P design.signals (reads_for design s) (followed design (target.process) s) →
      P (forms_in self) (numbers self.reads.now) (follows_in self)
  to_self P h =
      subst (λ signals. P signals (numbers self.reads.now) (follows_in self)) (sym target.forms)
      (subst (λ reads. P design.signals reads (follows_in self)) (sym target.reads)
      (subst (P design.signals (reads_for design s)) (sym target.follows) h))

  -- it follows itself
  pub target_inside : Contains (follows_in self) s
  target_inside =
      subst (λ ts. Contains ts s) (sym target.follows)
      (follows_itself design (target.is).is_sound (target.is).is_admitted target.process target.at s
      target.own)

  pub target_followed : IsTrue (is_marked self.follows.now s)
  target_followed =
      those_pass (length self.follows.now) (is_marked self.follows.now) s target_inside

  pub target_fit : AreFit (forms_in self) (follows_in self) (IsAtHand self) (marked_statement x)
  target_fit = to_self (λ signals reads followed.
      AreFit signals followed (AtHand signals reads followed) (marked_statement x))
      (parts_fit design target.is target.process s target.at target.own (marked_statement x)
      (target.body).parts)

  pub target_size : statement_size (forms_in self) (follows_in self) (marked_statement x)
      ≡ signal_size design s
  target_size = to_self (λ signals reads followed.
      statement_size signals followed (marked_statement x) ≡ signal_size design s)
      (sym (ap (size_of_first design s) target.alone
      ∙ parts_size design target.is target.process s target.at target.own (marked_statement x)
      (target.body).parts))

  module _ (words read own : Words)
      (same : (t : ℕ) → Contains (numbers self.reads.now) t → read t ≡ words t)
      (others : (t : ℕ) → t < length design.signals → own t ≡ read t)
      (clear : (u : ℕ) → Contains (follows_in self) u → own (copy_of (forms_in self) u)
      ≡ replicate (signal_width (forms_in self) u) false_literal) where
    has_read : (t : ℕ) → Contains (reads_for design s) t → own t ≡ words t
    has_read t inside =
        others t (those_below (length design.signals) (is_read_for design s) t inside)
        ∙ same t (subst (λ ts. Contains ts t) (sym target.reads) inside)

    is_clear : (u : ℕ) → Contains (followed design (target.process) s) u →
        own (copy_of design.signals u) ≡ replicate (signal_width design.signals u) false_literal
    is_clear u inside =
        subst (λ signals. own (copy_of signals u)
        ≡ replicate (signal_width signals u) false_literal) target.forms
        (clear u (subst (λ ts. Contains ts u) (sym target.follows) inside))

    pub target_stand : (n : ℕ) → 1 ≤ n → StandForReads design n words s →
        AllStand (forms_in self) (IsAtHand self) n own
    target_stand n some has = to_self (λ signals reads followed.
        AllStand signals (AtHand signals reads followed) n own)
        (own_stand design target.is target.process s target.at target.own target.block words own
        has_read is_clear n some has)

    pub target_made : (f : Formula) → settled_word design words s f
        ≡ (let made = words_after (forms_in self) (follows_in self) (marked_statement x) own f in
        (made.0, made.1 (copy_of (forms_in self) s)))
    target_made f = to_self (λ signals reads followed. settled_word design words s f
        ≡ (let made = words_after signals followed (marked_statement x) own f in
        (made.0, made.1 (copy_of signals s))))
        (ap (λ ps. word_by_first design s ps words f) target.alone
        ∙ driven_followed design target.is target.process s target.at target.own target.block words
        own has_read is_clear (marked_statement x) (target.body).parts f)
