-- Parts of an expression, as the calls see them: they are ready where the whole is, and what takes
-- too many variables in a part takes too many in the whole.
use Rattle.std.proofs.Common.{◌≡◌, ℕ, ◌≤◌, ◌<◌, ◌++◌, ℤ, List, sym, ap, subst, ◌∙◌, le_refl}
use Rattle.std.specs.Prelude.{IsTrue}
use Rattle.std.specs.declared.alloc.Global.{Global}
use Rattle.std.specs.declared.vec.Vec.{Vec}
use Rattle.sv_num.specs.declared.faults.Place.{Place}
use Rattle.sv_num.specs.declared.operators.UnOp.{UnOp}
use Rattle.sv_num.specs.declared.operators.BinOp.{BinOp}
use Rattle.sv_num.specs.declared.operators.OpClass.{OpClass}
use Rattle.sv_num.specs.BinaryValues.{class_of}
use Rattle.sv_flat.specs.declared.expressions.FExpr.{FExpr}
use Rattle.sv_flat.specs.declared.expressions.FNode.TheBlock.{hidden-the_row-FExpr-0}
use Rattle.sv_flat.specs.Design.{SignalForm, NodeTree, TypedTrees, unary, binary, choice, join}
use Rattle.sv_flat.specs.Design.{replication, held_bit, mend}
use Rattle.sv_flat.specs.Readings.{ReadForm, reads, parts_reads}
use Rattle.sv_flat.specs.Soundness.{is_one_to, well_formed, node_well_formed, parts_well_formed}
use Rattle.sv_flat.specs.Views.{typed_tree, node_tree, row_parts}
use Rattle.sv_flat.proofs.Depths.{second_of}
use Rattle.sv_flat.proofs.NodeForms.{join_few, repeat_few}
use Rattle.sv_flat.proofs.Parts.{trees}
use Rattle.sv_flat.proofs.Rows.{row_parts-hidden}
use Rattle.sv_gates.specs.Formulas.{Formula}
use Rattle.sv_circuits.specs.Words.{Word, zero_filled, repeated_word}
use Rattle.sv_encoding.specs.Expressions.{Words, expression_word, node_word, joined_word}
use Rattle.sv_encoding.specs.Expressions.{is_true_bit}
use Rattle.sv_blast.specs.NodeWords.{operand_of, cut_of}
use Rattle.sv_blast.proofs.NodeSteps.{full_as, unary_full_first, binary_full_first}
use Rattle.sv_blast.proofs.NodeSteps.{binary_full_second, choice_full_bit, choice_full_first}
use Rattle.sv_blast.proofs.NodeSteps.{choice_full_second, held_bit_full_first, mend_full_first}
use Rattle.sv_blast.proofs.NodeSteps.{changed, binary_formed, choice_formed, held_bit_formed}
use Rattle.sv_blast.proofs.NodeSteps.{mend_formed}
use Rattle.sv_blast.proofs.Standing.{StandAll, stand_as, stand_left, stand_right, stand_same}
use Rattle.sv_blast.proofs.Standing.{stand_up}

-- ---- parts that are ready

module _ (signals : List SignalForm) (words : Words) (expr : FExpr) (n : ℕ)
    (formed : IsTrue (well_formed signals (typed_tree expr)))
    (stand : StandAll signals n words (reads signals (typed_tree expr))) where
  abbrev IsReady : ℕ → FExpr → Type 0
  IsReady m e =
      IsTrue (well_formed signals (typed_tree e))
      × StandAll signals m words (reads signals (typed_tree e))

  node_formed : IsTrue (node_well_formed signals expr.width expr.signed (node_tree expr.node))
  node_formed =
      second_of (is_one_to 64 expr.width)
      (node_well_formed signals expr.width expr.signed (node_tree expr.node)) formed

  -- a part as it is seen, in a formula that may have grown
  seen_ready : (e : FExpr) → IsTrue (well_formed signals (typed_tree e)) →
      StandAll signals n words (reads signals (typed_tree e)) → (m : ℕ) → n ≤ m → (f : FExpr) →
      f ≡ e → IsReady m f
  seen_ready e e_formed e_stand m up f same = (
    subst (λ (z : FExpr). IsTrue (well_formed signals (typed_tree z))) (sym same) e_formed,
    stand_up signals n m words (reads signals (typed_tree f)) up
        (stand_same signals n words e f same e_stand),
  )

  -- a part whose names come before those of others, and one whose names come behind them
  ready_before : (e : FExpr) (others : List ReadForm) →
      IsTrue (well_formed signals (typed_tree e)) →
      StandAll signals n words (reads signals (typed_tree e) ++ others) → (f : FExpr) → f ≡ e →
      IsReady n f
  ready_before e others e_formed all =
      seen_ready e e_formed (stand_left signals n words (reads signals (typed_tree e)) others all)
      n (le_refl n)

  ready_behind : (e : FExpr) (others : List ReadForm) →
      IsTrue (well_formed signals (typed_tree e)) →
      StandAll signals n words (others ++ reads signals (typed_tree e)) → (m : ℕ) → n ≤ m →
      (f : FExpr) → f ≡ e → IsReady m f
  ready_behind e others e_formed all =
      seen_ready e e_formed (stand_right signals n words others (reads signals (typed_tree e)) all)

  module _ (op : BinOp) (a b : FExpr)
      (is : node_tree expr.node ≡ binary op (typed_tree a) (typed_tree b)) where
    both_formed : IsTrue (well_formed signals (typed_tree a))
        × IsTrue (well_formed signals (typed_tree b))
    both_formed =
        binary_formed signals expr.width expr.signed (node_tree expr.node) node_formed op
        (typed_tree a) (typed_tree b) is

    both_stand : StandAll signals n words
        (reads signals (typed_tree a) ++ reads signals (typed_tree b))
    both_stand =
        stand_as signals n words (node_tree expr.node) (binary op (typed_tree a) (typed_tree b)) is
        stand

    pub left_ready : (f : FExpr) → f ≡ a → IsReady n f
    left_ready = ready_before a (reads signals (typed_tree b)) both_formed.0 both_stand

    pub right_ready : (m : ℕ) → n ≤ m → (f : FExpr) → f ≡ b → IsReady m f
    right_ready = ready_behind b (reads signals (typed_tree a)) both_formed.1 both_stand

  module _ (place : Place) (k a b : FExpr)
      (is : node_tree expr.node ≡ choice place (typed_tree k) (typed_tree a) (typed_tree b)) where
    all_formed : IsTrue (well_formed signals (typed_tree k))
        × IsTrue (well_formed signals (typed_tree a)) × IsTrue (well_formed signals (typed_tree b))
    all_formed =
        choice_formed signals expr.width expr.signed (node_tree expr.node) node_formed place
        (typed_tree k) (typed_tree a) (typed_tree b) is

    all_stand : StandAll signals n words
        (reads signals (typed_tree k) ++ reads signals (typed_tree a)
        ++ reads signals (typed_tree b))
    all_stand =
        stand_as signals n words (node_tree expr.node)
        (choice place (typed_tree k) (typed_tree a) (typed_tree b)) is stand

    front_stand : StandAll signals n words
        (reads signals (typed_tree k) ++ reads signals (typed_tree a))
    front_stand =
        stand_left signals n words (reads signals (typed_tree k) ++ reads signals (typed_tree a))
        (reads signals (typed_tree b)) all_stand

    pub condition_ready : (f : FExpr) → f ≡ k → IsReady n f
    condition_ready = ready_before k (reads signals (typed_tree a)) all_formed.0 front_stand

    pub first_ready : (m : ℕ) → n ≤ m → (f : FExpr) → f ≡ a → IsReady m f
    first_ready = ready_behind a (reads signals (typed_tree k)) all_formed.1 front_stand

    pub second_ready : (m : ℕ) → n ≤ m → (f : FExpr) → f ≡ b → IsReady m f
    second_ready =
        ready_behind b (reads signals (typed_tree k) ++ reads signals (typed_tree a)) all_formed.2
        all_stand

  pub index_ready : (s : ℕ) (place : Place) (e i : FExpr) →
      node_tree expr.node ≡ held_bit s place (typed_tree e) (typed_tree i) →
      (m : ℕ) → n ≤ m → (f : FExpr) → f ≡ i → IsReady m f
  index_ready s place e i is =
      ready_behind i (reads signals (typed_tree e))
      (held_bit_formed signals expr.width expr.signed (node_tree expr.node) node_formed s place
      (typed_tree e) (typed_tree i) is)
      (stand_as signals n words (node_tree expr.node)
      (held_bit s place (typed_tree e) (typed_tree i)) is stand)

  pub piece_ready : (s : ℕ) (e : FExpr) (high low : ℕ) (p : FExpr) →
      node_tree expr.node ≡ mend s (typed_tree e) high low (typed_tree p) →
      (m : ℕ) → n ≤ m → (f : FExpr) → f ≡ p → IsReady m f
  piece_ready s e high low p is =
      ready_behind p (reads signals (typed_tree e))
      (mend_formed signals expr.width expr.signed (node_tree expr.node) node_formed s
      (typed_tree e) high low (typed_tree p) is)
      (stand_as signals n words (node_tree expr.node)
      (mend s (typed_tree e) high low (typed_tree p)) is stand)

-- ---- parts in which something takes too many variables

module _ (signals : List SignalForm) (words : Words) (expr : FExpr) (old : Formula) (most : ℕ) where
  abbrev TooMany : Type 0
  TooMany = most < ((expression_word signals words (typed_tree expr) old).0).variables

  pub operand_full : (op : UnOp) (a : FExpr) → node_tree expr.node ≡ unary op (typed_tree a) →
      (f : FExpr) → f ≡ a →
      most < ((expression_word signals words (typed_tree f) old).0).variables → TooMany
  operand_full op a is f same high =
      unary_full_first signals words most old expr.width expr.signed (node_tree expr.node) op
      (typed_tree a) is
      (subst (λ (z : FExpr).
      most < ((expression_word signals words (typed_tree z) old).0).variables) same high)

  module _ (op : BinOp) (a b : FExpr)
      (is : node_tree expr.node ≡ binary op (typed_tree a) (typed_tree b))
      (class : OpClass) (class_is : class ≡ class_of op) (f : FExpr) (left_is : f ≡ a) where
    pub left_full : most < ((operand_of signals words class (typed_tree f) old).0).variables →
        TooMany
    left_full high =
        binary_full_first signals words most old expr.width expr.signed (node_tree expr.node) op
        (typed_tree a) (typed_tree b) class is class_is
        (subst (λ (z : FExpr).
        most < ((operand_of signals words class (typed_tree z) old).0).variables) left_is high)

    pub right_full : (one : Formula) (left : Word) →
        operand_of signals words class (typed_tree f) old ≡ (one, left) → (g : FExpr) → g ≡ b →
        most < ((operand_of signals words class (typed_tree g) one).0).variables → TooMany
    right_full one left made g right_is high =
        binary_full_second signals words most old expr.width expr.signed (node_tree expr.node) op
        (typed_tree a) (typed_tree b) class one left is class_is
        (ap (λ (z : FExpr). operand_of signals words class (typed_tree z) old) (sym left_is) ∙ made)
        (subst (λ (z : FExpr).
        most < ((operand_of signals words class (typed_tree z) one).0).variables) right_is high)

  module _ (place : Place) (k a b : FExpr)
      (is : node_tree expr.node ≡ choice place (typed_tree k) (typed_tree a) (typed_tree b))
      (f : FExpr) (condition_is : f ≡ k) where
    pub condition_full : most < ((is_true_bit signals words (typed_tree f) old).0).variables →
        TooMany
    condition_full high =
        choice_full_bit signals words most old expr.width expr.signed (node_tree expr.node) place
        (typed_tree k) (typed_tree a) (typed_tree b) is
        (subst (λ (z : FExpr).
        most < ((is_true_bit signals words (typed_tree z) old).0).variables) condition_is high)

    module _ (one : Formula) (bit : ℤ)
        (bit_is : is_true_bit signals words (typed_tree f) old ≡ (one, bit))
        (g : FExpr) (first_is : g ≡ a) where
      bit_there : is_true_bit signals words (typed_tree k) old ≡ (one, bit)
      bit_there =
          ap (λ (z : FExpr). is_true_bit signals words (typed_tree z) old) (sym condition_is)
          ∙ bit_is

      pub first_full : most < ((expression_word signals words (typed_tree g) one).0).variables →
          TooMany
      first_full high =
          choice_full_first signals words most old expr.width expr.signed (node_tree expr.node)
          place (typed_tree k) (typed_tree a) (typed_tree b) is one bit bit_there
          (subst (λ (z : FExpr).
          most < ((expression_word signals words (typed_tree z) one).0).variables) first_is high)

      pub second_full : (two : Formula) (first : Word) →
          expression_word signals words (typed_tree g) one ≡ (two, first) →
          (h : FExpr) → h ≡ b →
          most < ((expression_word signals words (typed_tree h) two).0).variables → TooMany
      second_full two first made h second_is high =
          choice_full_second signals words most old expr.width expr.signed (node_tree expr.node)
          place (typed_tree k) (typed_tree a) (typed_tree b) is one two bit first bit_there
          (ap (λ (z : FExpr). expression_word signals words (typed_tree z) one) (sym first_is)
          ∙ made)
          (subst (λ (z : FExpr).
          most < ((expression_word signals words (typed_tree z) two).0).variables) second_is high)

  pub held_full : (s : ℕ) (place : Place) (e i : FExpr) →
      node_tree expr.node ≡ held_bit s place (typed_tree e) (typed_tree i) → (f : FExpr) → f ≡ e →
      most < ((cut_of signals words s (typed_tree f) old).0).variables → TooMany
  held_full s place e i is f same high =
      held_bit_full_first signals words most old expr.width expr.signed (node_tree expr.node) s
      place (typed_tree e) (typed_tree i) is
      (subst (λ (z : FExpr). most < ((cut_of signals words s (typed_tree z) old).0).variables) same
      high)

  pub mended_full : (s : ℕ) (e : FExpr) (high low : ℕ) (p : FExpr) →
      node_tree expr.node ≡ mend s (typed_tree e) high low (typed_tree p) → (f : FExpr) → f ≡ e →
      most < ((cut_of signals words s (typed_tree f) old).0).variables → TooMany
  mended_full s e high low p is f same many =
      mend_full_first signals words most old expr.width expr.signed (node_tree expr.node) s
      (typed_tree e) high low (typed_tree p) is
      (subst (λ (z : FExpr). most < ((cut_of signals words s (typed_tree z) old).0).variables) same
      many)

-- ---- parts one after the other

module _ (signals : List SignalForm) (words : Words) (expr : FExpr) (items : Vec FExpr Global)
    (seen : List FExpr) (same : seen ≡ items.items) where
  abbrev parts : TypedTrees
  parts = row_parts (hidden-the_row-FExpr-0 items)

  parts_are : parts ≡ trees seen
  parts_are = row_parts-hidden items ∙ ap trees (sym same)

  module _ (n : ℕ) (formed : IsTrue (well_formed signals (typed_tree expr)))
      (stand : StandAll signals n words (reads signals (typed_tree expr))) where
    parts_ready : IsTrue (parts_well_formed signals (trees items.items)) →
        StandAll signals n words (parts_reads signals parts) →
        IsTrue (parts_well_formed signals (trees seen))
        × StandAll signals n words (parts_reads signals (trees seen))
    parts_ready all there = (
      subst (λ xs. IsTrue (parts_well_formed signals (trees xs))) (sym same) all,
      subst (λ z. StandAll signals n words (parts_reads signals z)) parts_are there,
    )

    pub join_parts_ready : node_tree expr.node ≡ join parts →
        IsTrue (parts_well_formed signals (trees seen))
        × StandAll signals n words (parts_reads signals (trees seen))
    join_parts_ready is =
        parts_ready
        (join_few signals expr.width expr.signed (node_tree expr.node) items is
        (node_formed signals words expr n formed stand)).1
        (stand_as signals n words (node_tree expr.node) (join parts) is stand)

    pub repeat_parts_ready : (count : ℕ) → node_tree expr.node ≡ replication count parts →
        IsTrue (parts_well_formed signals (trees seen))
        × StandAll signals n words (parts_reads signals (trees seen))
    repeat_parts_ready count is =
        parts_ready
        (repeat_few signals expr.width expr.signed (node_tree expr.node) count items is
        (node_formed signals words expr n formed stand)).2
        (stand_as signals n words (node_tree expr.node) (replication count parts) is stand)

  module _ (old : Formula) where
    parts_full : (most : ℕ) (other : NodeTree) → node_tree expr.node ≡ other →
        (most < ((joined_word signals words parts old).0).variables →
        most < ((node_word signals words expr.width expr.signed other old).0).variables) →
        most < ((joined_word signals words (trees seen) old).0).variables →
        most < ((expression_word signals words (typed_tree expr) old).0).variables
    parts_full most other is whole high =
        full_as signals words most old expr.width expr.signed (node_tree expr.node) other is
        (whole (subst (λ z. most < ((joined_word signals words z old).0).variables) (sym parts_are)
        high))

    pub join_parts_full : (most : ℕ) → node_tree expr.node ≡ join parts →
        most < ((joined_word signals words (trees seen) old).0).variables →
        most < ((expression_word signals words (typed_tree expr) old).0).variables
    join_parts_full most is = parts_full most (join parts) is (λ high. high)

    pub repeat_parts_full : (most count : ℕ) → node_tree expr.node ≡ replication count parts →
        most < ((joined_word signals words (trees seen) old).0).variables →
        most < ((expression_word signals words (typed_tree expr) old).0).variables
    repeat_parts_full most count is = parts_full most (replication count parts) is (λ high. high)

    -- the word that is made of them, and what is made of it without gates
    module _ (new : Formula) (word shown done : Word)
        (made : joined_word signals words (trees seen) old ≡ (new, word)) (shown_is : shown ≡ word)
      where
        parts_made : (change : Word → Word) → done ≡ change shown →
            ◌≡◌ {A = Formula × Word} (
              (joined_word signals words parts old).0,
              change (joined_word signals words parts old).1,
            ) (new, done)
        parts_made change is =
            changed (joined_word signals words parts old) change new word shown done
            (ap (λ z. joined_word signals words z old) parts_are ∙ made) shown_is is

        pub join_made : node_tree expr.node ≡ join parts → done ≡ zero_filled expr.width shown →
            expression_word signals words (typed_tree expr) old ≡ (new, done)
        join_made is done_is =
            ap (λ z. node_word signals words expr.width expr.signed z old) is
            ∙ parts_made (zero_filled expr.width) done_is

        pub repeat_made : (count : ℕ) → node_tree expr.node ≡ replication count parts →
            done ≡ zero_filled expr.width (repeated_word count shown) →
            expression_word signals words (typed_tree expr) old ≡ (new, done)
        repeat_made count is done_is =
            ap (λ z. node_word signals words expr.width expr.signed z old) is
            ∙ parts_made (λ z. zero_filled expr.width (repeated_word count z)) done_is
