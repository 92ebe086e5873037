-- The names in an expression in which something stands for each name, as a list.
use Rattle.std.proofs.Common.{◌≡◌, ℕ, ◌||◌, ◌==◌, append-nil}
use Rattle.std.proofs.Common.{List, [], ◌∷◌, ◌++◌, flat_map, refl, sym, ap, ap₂, ◌∙◌}
use Rattle.std.specs.List.{list_any}
use Rattle.std.proofs.lemmas.List.Concat.{flat_map-append, flat_map_single}
use Rattle.std.proofs.lemmas.List.{map-append}
use Rattle.sv_num.specs.declared.faults.Place.{Place}
use Rattle.sv_flat.specs.Design.{SignalForm, TypedTree, typed, NodeTree, constant, read, read_bit}
use Rattle.sv_flat.specs.Design.{read_part, unary, binary, choice, join, replication, held}
use Rattle.sv_flat.specs.Design.{held_bit, held_part, mend, slice, TypedTrees, no_parts, more_parts}
use Rattle.sv_flat.specs.Sets.{holds}
use Rattle.sv_flat.specs.Values.{number_of}
use Rattle.sv_flat.specs.Readings.{ReadForm, whole_read, indexed_read, is_constant, reads}
use Rattle.sv_flat.specs.Readings.{node_reads, parts_reads}
use Rattle.sv_obl.specs.Exchange.{Instead, name, content, for_whole, for_bit, for_part, exchanged}
use Rattle.sv_obl.specs.Exchange.{exchanged_node, exchanged_parts}
use Rattle.sv_obl.specs.Routes.{signals_of_reads, names_in}
use Rattle.sv_obl.proofs.TreeFacts.{indexed_is}
use Rattle.sv_obl.proofs.Unchanged.{exchanged_itself}

-- the names in what stands for a name
abbrev pub stands : List SignalForm → Instead → List ℕ
stands B (name t) = t ∷ []
stands B (content s e) = names_in B e

module _ (A B : List SignalForm) (instead : ReadForm → Instead) where
  abbrev pub stand_for : List ReadForm → List ℕ
  stand_for rs = flat_map (λ (r : ReadForm). stands B (instead r)) rs

  joined : (f g xs ys : List ReadForm) → signals_of_reads f ≡ stand_for xs
      → signals_of_reads g ≡ stand_for ys
      → signals_of_reads (f ++ g) ≡ stand_for (xs ++ ys)
  joined f g xs ys p q =
      map-append (λ (r : ReadForm). r.signal) f g
      ∙ ap₂ (λ a b. a ++ b) p q
      ∙ sym (flat_map-append (λ (r : ReadForm). stands B (instead r)) xs ys)

  whole_stands : (i : Instead) (p : Place) →
      signals_of_reads (node_reads B (for_whole i p)) ≡ stands B i ++ []
  whole_stands (name t) p = refl
  whole_stands (content s e) p = sym (append-nil (names_in B e))

  part_stands : (i : Instead) (p : Place) (high low : ℕ) →
      signals_of_reads (node_reads B (for_part i p high low)) ≡ stands B i ++ []
  part_stands (name t) p high low = refl
  part_stands (content s e) p high low = sym (append-nil (names_in B e))

  bit_stands : (i : Instead) (p : Place) (index : TypedTree) →
      signals_of_reads (node_reads B (for_bit i p index)) ≡ stands B i ++ names_in B index
  bit_stands (name t) p index =
      ap (λ k. k ∷ names_in B index) (indexed_is B (is_constant index) t p
      (number_of B (λ z. 0) index))
  bit_stands (content s e) p index =
      map-append (λ (r : ReadForm). r.signal) (reads B e) (reads B index)

  mutual
    -- the names in the expression are those in what stands for the names that were in it
    pub exchanged_in : (t : TypedTree) → names_in B (exchanged A instead t) ≡ stand_for (reads A t)
    exchanged_in (typed w signed node) = exchanged_in_node node

    exchanged_in_node : (node : NodeTree) →
        signals_of_reads (node_reads B (exchanged_node A instead node))
        ≡ stand_for (node_reads A node)
    exchanged_in_node (constant k) = refl
    exchanged_in_node (read s p) = whole_stands (instead (whole_read A s p)) p
    exchanged_in_node (read_bit s p i) =
        let r = indexed_read A s p i in
        bit_stands (instead r) p (exchanged A instead i)
        ∙ ap (λ ns. stands B (instead r) ++ ns) (exchanged_in i)
    exchanged_in_node (read_part s p high low) =
        part_stands (instead (record { signal = s; place = p; high = high; low = low })) p high low
    exchanged_in_node (unary op a) = exchanged_in a
    exchanged_in_node (binary op a b) =
        joined (reads B (exchanged A instead a)) (reads B (exchanged A instead b)) (reads A a)
        (reads A b) (exchanged_in a) (exchanged_in b)
    exchanged_in_node (choice p c a b) =
        joined (reads B (exchanged A instead c) ++ reads B (exchanged A instead a))
        (reads B (exchanged A instead b)) (reads A c ++ reads A a) (reads A b)
        (joined (reads B (exchanged A instead c)) (reads B (exchanged A instead a)) (reads A c)
        (reads A a) (exchanged_in c) (exchanged_in a)) (exchanged_in b)
    exchanged_in_node (join es) = exchanged_in_parts es
    exchanged_in_node (replication count es) = exchanged_in_parts es
    exchanged_in_node (held s e) = exchanged_in e
    exchanged_in_node (held_bit s p e i) =
        joined (reads B (exchanged A instead e)) (reads B (exchanged A instead i)) (reads A e)
        (reads A i) (exchanged_in e) (exchanged_in i)
    exchanged_in_node (held_part s p e high low) = exchanged_in e
    exchanged_in_node (mend s e high low piece) =
        joined (reads B (exchanged A instead e)) (reads B (exchanged A instead piece)) (reads A e)
        (reads A piece) (exchanged_in e) (exchanged_in piece)
    exchanged_in_node (slice e high low) = exchanged_in e

    exchanged_in_parts : (es : TypedTrees) →
        signals_of_reads (parts_reads B (exchanged_parts A instead es))
        ≡ stand_for (parts_reads A es)
    exchanged_in_parts no_parts = refl
    exchanged_in_parts (more_parts e es) =
        joined (reads B (exchanged A instead e)) (parts_reads B (exchanged_parts A instead es))
        (reads A e) (parts_reads A es) (exchanged_in e) (exchanged_in_parts es)

module _ (A B : List SignalForm) where
  -- the names do not depend on the widths
  pub names_alike : (t : TypedTree) → names_in B t ≡ names_in A t
  names_alike t =
      let itself : ReadForm → Instead = λ r. name r.signal in
      ap (names_in B) (sym (exchanged_itself A itself t (λ r at. refl)))
      ∙ exchanged_in A B itself t
      ∙ flat_map_single (λ (r : ReadForm). r.signal) (reads A t)

-- a name in the list of names
pub held_name : (rs : List ReadForm) (t : ℕ) →
    holds (signals_of_reads rs) t ≡ list_any (λ (r : ReadForm). r.signal == t) rs
held_name [] t = refl
held_name (r ∷ rs) t = ap (λ b. (r.signal == t) || b) (held_name rs t)
