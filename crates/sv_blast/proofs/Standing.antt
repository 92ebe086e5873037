-- The words of what an expression names stand for its parts too, and in every larger formula.
use Rattle.std.proofs.Common.{◌≡◌, ℕ, ◌≤◌, Bool, true, false, ◌||◌, ◌==◌, List, [], ◌∷◌, ◌++◌}
use Rattle.std.proofs.Common.{refl, sym, subst}
use Rattle.std.specs.Prelude.{IsTrue}
use Rattle.std.specs.List.{list_any}
use Rattle.std.proofs.lemmas.Bool.{false≢true}
use Rattle.sv_flat.specs.Design.{SignalForm, TypedTree, NodeTree}
use Rattle.sv_flat.specs.declared.expressions.FExpr.{FExpr}
use Rattle.sv_flat.specs.Views.{typed_tree}
use Rattle.sv_flat.specs.Readings.{ReadForm, reads, node_reads}
use Rattle.sv_circuits.proofs.WordKeeps.{word_up}
use Rattle.sv_encoding.specs.Expressions.{Words}
use Rattle.sv_blast.specs.WordTables.{StandsOf}

-- some read is of the signal
abbrev pub is_named : List ReadForm → ℕ → Bool
is_named rs s = list_any (λ (r : ReadForm). r.signal == s) rs

-- the words of the signals that are read stand in a formula of so many variables
abbrev pub StandAll : List SignalForm → (variables : ℕ) → Words → List ReadForm → Type 0
StandAll signals n words rs = (s : ℕ) → IsTrue (is_named rs s) → StandsOf signals n words s

or_right : (a b : Bool) → IsTrue b → IsTrue (a || b)
or_right true b h = refl
or_right false b h = h

or_more : (a b c : Bool) → (IsTrue b → IsTrue c) → IsTrue (a || b) → IsTrue (a || c)
or_more true b c f h = refl
or_more false b c f h = f h

named_left : (xs ys : List ReadForm) (s : ℕ) → IsTrue (is_named xs s) →
    IsTrue (is_named (xs ++ ys) s)
named_left [] ys s h = absurd (false≢true h)
named_left (r ∷ xs) ys s h =
    or_more (r.signal == s) (is_named xs s) (is_named (xs ++ ys) s) (named_left xs ys s) h

named_right : (xs ys : List ReadForm) (s : ℕ) → IsTrue (is_named ys s) →
    IsTrue (is_named (xs ++ ys) s)
named_right [] ys s h = h
named_right (r ∷ xs) ys s h =
    or_right (r.signal == s) (is_named (xs ++ ys) s) (named_right xs ys s h)

module _ (signals : List SignalForm) (n : ℕ) (words : Words) where
  pub stand_left : (xs ys : List ReadForm) → StandAll signals n words (xs ++ ys) →
      StandAll signals n words xs
  stand_left xs ys all s h = all s (named_left xs ys s h)

  pub stand_right : (xs ys : List ReadForm) → StandAll signals n words (xs ++ ys) →
      StandAll signals n words ys
  stand_right xs ys all s h = all s (named_right xs ys s h)

  -- a node is the one that it is found to be
  pub stand_as : (node other : NodeTree) → node ≡ other →
      StandAll signals n words (node_reads signals node) →
      StandAll signals n words (node_reads signals other)
  stand_as node other is all = subst (λ z. StandAll signals n words (node_reads signals z)) is all

  pub stand_same : (e f : FExpr) → f ≡ e →
      StandAll signals n words (reads signals (typed_tree e)) →
      StandAll signals n words (reads signals (typed_tree f))
  stand_same e f same all =
      subst (λ (z : FExpr). StandAll signals n words (reads signals (typed_tree z))) (sym same) all

-- what stands in a formula stands in every larger one
pub stand_up : (signals : List SignalForm) (m n : ℕ) (words : Words) (rs : List ReadForm) →
    m ≤ n → StandAll signals m words rs → StandAll signals n words rs
stand_up signals m n words rs h all s named =
    let here = all s named in (word_up m n (words s) h here.0, here.1)
