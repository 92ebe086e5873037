-- The signal whose word is made with the words of all that it follows, as the call holds it: by
-- what was asked of the design, and by the tables that were made for it.
use Rattle.std.proofs.Common.{◌≡◌, ℕ, ◌<◌, ◌≤◌, ◌||◌, Bool, Bor, List, Some, length, replicate}
use Rattle.std.proofs.Common.{sym, ap, subst, ◌∙◌}
use Rattle.std.specs.Prelude.{Contains, IsTrue}
use Rattle.sv_flat.specs.declared.designs.Flat.{Flat}
use Rattle.sv_flat.specs.Assigned.{assigns}
use Rattle.sv_flat.specs.ByNumber.{signal_forms}
use Rattle.sv_flat.specs.Clocks.{processes_of}
use Rattle.sv_flat.specs.Design.{ProcessForm}
use Rattle.sv_flat.specs.Processes.{is_register}
use Rattle.sv_flat.specs.Reads.{followed, is_combinational, reads_for}
use Rattle.sv_flat.specs.Values.{signal_width}
use Rattle.sv_flat.specs.Views.{design_of}
use Rattle.sv_graph.specs.Marks.{followed_in}
use Rattle.sv_design.specs.Designs.{IsDesign}
use Rattle.sv_design.specs.Numbers.{numbers}
use Rattle.sv_obl.specs.declared.marked.Marked.{Marked}
use Rattle.sv_obl.specs.MarkedBodies.{IsMarkedFor, marked_statement}
use Rattle.sv_obl.specs.Noninterference.{IsChecked}
use Rattle.sv_obl.specs.Wanted.{copy_of}
use Rattle.sv_gates.specs.Formulas.{Formula}
use Rattle.sv_gates.specs.Gates.{false_literal}
use Rattle.sv_encoding.specs.Bodies.{settled_word, words_after}
use Rattle.sv_encoding.specs.Expressions.{Words}
use Rattle.sv_blast.specs.FollowedWords.{forms_in, follows_in, IsAtHand, AllStand}
use Rattle.sv_blast.specs.WordTables.{StandForReads}
use Rattle.sv_blast.specs.declared.followed.Followed.{Followed}
use Rattle.sv_blast.proofs.FollowedTargets.{IsTarget, driven_target, target_stand, target_made}
use Rattle.sv_blast.proofs.KnownSignals.{as_many}
use Rattle.sv_blast.proofs.SliceWords.{known}

module _ (flat : Flat) (s : ℕ) (checked : IsChecked (design_of flat)) where
  is_design : IsDesign (design_of flat)
  is_design = record { is_sound = checked.is_sound; is_admitted = checked.admitted }

  -- a register or a combinational signal is one of the design
  pub driven_known : IsTrue (is_register (design_of flat) s || is_combinational (design_of flat) s)
      → s < length flat.signals.items
  driven_known driven =
      subst (λ n. s < n) (as_many flat) (known (design_of flat) is_design s driven)

  module _ (x : Bor Marked) (body : IsMarkedFor (design_of flat) s (Some x)) (self : Followed)
      (signals : self.signals.now ≡ flat.signals.items)
      (reads : numbers self.reads.now ≡ reads_for (design_of flat) s) (table : List Bool)
      (marks : self.follows.now ≡ table)
      (follows : (p : ProcessForm) → Contains (processes_of (design_of flat)) p →
      IsTrue (assigns p.body s) → followed_in table ≡ followed (design_of flat) p s)
      (driven : IsTrue (is_register (design_of flat) s || is_combinational (design_of flat) s))
    where
      pub call_target : IsTarget (design_of flat) s x.now self
      call_target =
          driven_target (design_of flat) is_design s x body self (ap signal_forms signals) reads
          (λ p at own. ap followed_in marks ∙ follows p at own) driven

      module _ (words read own : Words)
          (same : (t : ℕ) → Contains (numbers self.reads.now) t → read t ≡ words t)
          (others : (t : ℕ) → t < length self.signals.now → own t ≡ read t)
          (clear : (u : ℕ) → Contains (follows_in self) u →
          own (copy_of (forms_in self) u)
          ≡ replicate (signal_width (forms_in self) u) false_literal) where
        others_below : (t : ℕ) → t < length (design_of flat).signals → own t ≡ read t
        others_below t low =
            others t (subst (λ n. t < n) (as_many flat ∙ sym (ap length signals)) low)

        pub call_stand : (n : ℕ) → 1 ≤ n → StandForReads (design_of flat) n words s →
            AllStand (forms_in self) (IsAtHand self) n own
        call_stand =
            target_stand (design_of flat) s x.now self call_target words read own same others_below
            clear

        pub call_made : (f : Formula) → settled_word (design_of flat) words s f
            ≡ (let made = words_after (forms_in self) (follows_in self) (marked_statement x.now) own f
            in (made.0, made.1 (copy_of (forms_in self) s)))
        call_made =
            target_made (design_of flat) s x.now self call_target words read own same others_below
            clear
