-- The literals of facts and conditions say whether these are not 0.
use Rattle.std.proofs.Common.{◌≡◌, ℕ, ◌≤◌, Bool, List, [], ◌∷◌, ap, ◌∙◌, ℤ, arith}
use Rattle.std.specs.Prelude.{IsTrue}
use Rattle.sv_num.specs.Vectors.{is_true}
use Rattle.sv_system.specs.System.{Environment}
use Rattle.sv_flat.specs.Design.{TypedTree, FlatDesign}
use Rattle.sv_flat.specs.Values.{signal_width, value}
use Rattle.sv_flat.specs.Soundness.{well_formed}
use Rattle.sv_clause.specs.Literals.{literal_true}
use Rattle.sv_gates.specs.Formulas.{Formula, IsLiteral}
use Rattle.sv_gates.specs.Extending.{Makes}
use Rattle.sv_gates.proofs.GateLaws.{literal_more}
use Rattle.sv_gates.proofs.ExtendingLaws.{makes_at_once, meets-begins, extends_trans}
use Rattle.sv_circuits.specs.Words.{word_value}
use Rattle.sv_circuits.specs.Circuits.{IsBase}
use Rattle.sv_circuits.proofs.Pieces.{base_more}
use Rattle.sv_encoding.specs.Expressions.{Words, is_true_bit}
use Rattle.sv_encoding.specs.Encoding.{truth_literals}
use Rattle.sv_encoding.specs.Valuations.{spelled_environment}
use Rattle.sv_encoding.specs.BothWays.{HaveBits}
use Rattle.sv_encoding_laws.proofs.ExpressionLaws.{Named, truth_makes}
use Rattle.sv_encoding_laws.proofs.NamedValues.{named_value, named_as}
use Rattle.sv_encoding_laws.proofs.Steps.{HasWidth, width_more}

module _ (design : FlatDesign) (bits : HaveBits design.signals) (G : ℕ → Type 0) where
  abbrev Wide : ℕ → Words → Type 0
  Wide n words = (t : ℕ) → G t → HasWidth (signal_width design.signals t) n (words t)

  wide_more : (m n : ℕ) (words : Words) → m ≤ n → Wide m words → Wide n words
  wide_more m n words h wide t g =
      width_more m n (signal_width design.signals t) (words t) h (wide t g)

  -- an expression that names what counts
  pub record Counts (e : TypedTree) : Type 0 where
    pub formed : IsTrue (well_formed design.signals e)
    pub named : Named G e

  -- the words spell an environment
  abbrev pub Spelled : (values : ℕ → Bool) → Words → Environment ℕ → Type 0
  Spelled values words e = (t : ℕ) → G t → word_value values (words t) ≡ e t

  pub truth_says : (e : TypedTree) → Counts e → (words : Words) (old : Formula) → IsBase old →
      Wide old.variables words →
      Makes old (is_true_bit design.signals words e old) IsLiteral (λ values literal.
      (there : Environment ℕ) → Spelled values words there →
      literal_true values literal ≡ is_true (value design.signals there e))
  truth_says e counts words old base wide =
      let p = truth_makes design.signals bits words old.variables e counts.formed
      (named_as G (λ t. HasWidth (signal_width design.signals t) old.variables (words t)) wide e
      counts.named) old (omega arith) base in
      record {
        extends = p.extends;
        within = p.within;
        says = λ values met there spelled.
            p.says values met
            ∙ ap is_true (named_value design.signals (spelled_environment values words) there e
            (named_as G (λ t. spelled_environment values words t ≡ there t) spelled e
            counts.named));
      }

  abbrev pub AllCount : List TypedTree → Type 0
  AllCount [] = Unit {0}
  AllCount (e ∷ es) = Counts e × AllCount es

  -- one literal for each expression
  abbrev pub AreLiterals : List TypedTree → ℕ → List ℤ → Type 0
  AreLiterals [] n [] = Unit {0}
  AreLiterals [] n (literal ∷ literals) = ⊥
  AreLiterals (e ∷ es) n [] = ⊥
  AreLiterals (e ∷ es) n (literal ∷ literals) = IsLiteral n literal × AreLiterals es n literals

  abbrev pub AreTruths : (values : ℕ → Bool) → Environment ℕ → List TypedTree → List ℤ → Type 0
  AreTruths values there [] [] = Unit {0}
  AreTruths values there [] (literal ∷ literals) = ⊥
  AreTruths values there (e ∷ es) [] = ⊥
  AreTruths values there (e ∷ es) (literal ∷ literals) =
      (literal_true values literal ≡ is_true (value design.signals there e))
      × AreTruths values there es literals

  pub truths_say : (es : List TypedTree) → AllCount es → (words : Words) (old : Formula) →
      IsBase old → Wide old.variables words →
      Makes old (truth_literals design words es old) (AreLiterals es) (λ values literals.
      (there : Environment ℕ) → Spelled values words there → AreTruths values there es literals)
  truths_say [] count words old base wide =
      makes_at_once old [] (AreLiterals []) (λ values literals.
      (there : Environment ℕ) → Spelled values words there → AreTruths values there [] literals)
      base.closed tt (λ values met there spelled. tt)
  truths_say (e ∷ es) count words old base wide =
      let one = is_true_bit design.signals words e old in
      let p = truth_says e count.0 words old base wide in
      let m = old.variables in
      let n = (one.0).variables in
      let rest = truth_literals design words es one.0 in
      let q = truths_say es count.1 words one.0 (base_more old one.0 base p.extends)
      (wide_more m n words p.extends.begins.grows wide) in
      record {
        extends = extends_trans old one.0 rest.0 p.extends q.extends;
        within = (
          literal_more n (rest.0).variables one.1 q.extends.begins.grows p.within,
          q.within,
        );
        says = λ values met there spelled. (
          p.says values (meets-begins one.0 rest.0 values q.extends.begins met) there spelled,
          q.says values met there spelled,
        );
      }
