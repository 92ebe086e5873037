-- The items of a module are what their symbols stand for.
use Rattle.std.proofs.Common.{List, ◌⊎◌, inl, inr, refl}
use Rattle.std.specs.Prelude.{map, flat_map}
use Rattle.sv_token.specs.declared.keywords.WordKind.TheVariants as words
use Rattle.sv_token.specs.declared.signs.SignKind.TheVariants as signs
use Rattle.sv_token.specs.Lexemes.{Placed}
use Rattle.sv_ast.specs.Tree.{ItemTree, parameter_item, declared, memory_item, instance_item}
use Rattle.sv_ast.specs.GrammarForms.{◌⨾◌, ◌or◌, a_word, a_sign}
use Rattle.sv_ast.specs.GrammarExpressions.{Limits}
use Rattle.sv_ast.specs.GrammarModules.{IsListedItem, IsItem, AreItems}
use Rattle.sv_parse_machine.proofs.OuterForms.{items_row, items_form}
use Rattle.sv_parse_machine.proofs.ListTrees.{f_each, b_each}
use Rattle.sv_parse_machine.proofs.DeclarationTrees.{parameters_form, f_parameters, Parameters}
use Rattle.sv_parse_machine.proofs.DeclarationTrees.{b_parameters, wires_form, regs_form, f_signals}
use Rattle.sv_parse_machine.proofs.DeclarationTrees.{f_memories, Signals, Memories, b_wires, b_regs}
use Rattle.sv_parse_machine.proofs.AssignTrees.{SomeItem, f_continuous, f_released, f_always, f_invariant}
use Rattle.sv_parse_machine.proofs.AssignTrees.{b_assigned, b_always, b_invariant}
use Rattle.sv_parse_machine.proofs.InstanceTrees.{f_instances, b_instances}

-- ---- from items to rows

parameters_row : (l : Limits) (ts rest : List Placed) → parameters_form l ts rest →
    items_row l ts rest
parameters_row l ts rest (inl is) = inl is
parameters_row l ts rest (inr is) = inr (inl is)

signals_row : (l : Limits) (ts rest : List Placed) → (wires_form l or regs_form l) ts rest →
    items_row l ts rest
signals_row l ts rest (inl is) = inr (inr (inl is))
signals_row l ts rest (inr is) = inr (inr (inr (inl is)))

f_listed : (l : Limits) (items : List ItemTree) (ts m rest : List Placed) →
    IsListedItem l items ts m → a_sign signs.Semicolon m rest → items_row l ts rest
f_listed l items ts m rest (inl (qs, same, are)) final =
    parameters_row l ts rest (f_parameters l qs ts rest (m, are, final))
f_listed l items ts m rest (inr (inl (ds, same, are))) final =
    signals_row l ts rest (f_signals l ds ts rest (m, are, final))
f_listed l items ts m rest (inr (inr (inl (ds, same, is)))) final =
    inr (inr (inr (inl (f_memories l ds ts rest (m, is, final)))))
f_listed l items ts m rest (inr (inr (inr (inl are)))) final =
    inr (inr (inr (inr (inl (f_continuous l items ts rest (m, are, final))))))
f_listed l items ts m rest (inr (inr (inr (inr (inl is))))) final =
    inr (inr (inr (inr (inl (f_released l items ts rest (m, is, final))))))
f_listed l items ts m rest (inr (inr (inr (inr (inr (inl is)))))) final =
    inr (inr (inr (inr (inr (inr (inl (f_invariant l items ts rest (m, is, final))))))))
f_listed l items ts m rest (inr (inr (inr (inr (inr (inr (instances, same, are))))))) final =
    inr (inr (inr (inr (inr (inr (inr (f_instances l instances ts rest (m, are, final))))))))

f_item : (l : Limits) (items : List ItemTree) (ts rest : List Placed) → IsItem l items ts rest →
    items_row l ts rest
unfolding IsItem
f_item l items ts rest (inl is) = inr (inr (inr (inr (inr (inl (f_always l items ts rest is))))))
f_item l items ts rest (inr (m, is, final)) = f_listed l items ts m rest is final

pub form_of_items : (l : Limits) (items : List ItemTree) (ts rest : List Placed) →
    (AreItems l items ⨾ a_word words.Endmodule) ts rest → items_form l ts rest
form_of_items l items ts rest (m, (groups, same, are), final) =
    let rows = f_each (IsItem l) (items_row l) (f_item l) groups ts m are in
    (rows.0, (m, rows.1, final))

-- ---- from rows to items

abbrev Listed : Limits → List Placed → List Placed → Type 0
Listed l ts rest = (items : List ItemTree) × (IsListedItem l items ⨾ a_sign signs.Semicolon) ts rest

listed_item : (l : Limits) (ts rest : List Placed) → Listed l ts rest → SomeItem l ts rest
unfolding IsItem
listed_item l ts rest (items, is) = (items, inr is)

b_parameters_item : (l : Limits) (ts rest : List Placed) → Parameters l ts rest → Listed l ts rest
b_parameters_item l ts rest (qs, (m, are, final)) =
    (map parameter_item qs, (m, inl (qs, refl, are), final))

b_signals_item : (l : Limits) (ts rest : List Placed) → Signals l ts rest → Listed l ts rest
b_signals_item l ts rest (ds, (m, are, final)) =
    (map declared ds, (m, inr (inl (ds, refl, are)), final))

b_regs_item : (l : Limits) (ts rest : List Placed) → Signals l ts rest ⊎ Memories l ts rest →
    Listed l ts rest
b_regs_item l ts rest (inl are) = b_signals_item l ts rest are
b_regs_item l ts rest (inr (ds, (m, is, final))) =
    (map memory_item ds, (m, inr (inr (inl (ds, refl, is))), final))

b_item : (l : Limits) (ts rest : List Placed) → items_row l ts rest → SomeItem l ts rest
b_item l ts rest (inl is) =
    listed_item l ts rest (b_parameters_item l ts rest (b_parameters l ts rest (inl is)))
b_item l ts rest (inr (inl is)) =
    listed_item l ts rest (b_parameters_item l ts rest (b_parameters l ts rest (inr is)))
b_item l ts rest (inr (inr (inl is))) =
    listed_item l ts rest (b_signals_item l ts rest (b_wires l ts rest is))
b_item l ts rest (inr (inr (inr (inl is)))) =
    listed_item l ts rest (b_regs_item l ts rest (b_regs l ts rest is))
b_item l ts rest (inr (inr (inr (inr (inl is))))) = b_assigned l ts rest is
b_item l ts rest (inr (inr (inr (inr (inr (inl is)))))) = b_always l ts rest is
b_item l ts rest (inr (inr (inr (inr (inr (inr (inl is))))))) = b_invariant l ts rest is
b_item l ts rest (inr (inr (inr (inr (inr (inr (inr is))))))) =
    let (instances, (m, are, final)) = b_instances l ts rest is in
    listed_item l ts rest (
      map instance_item instances,
      (m, inr (inr (inr (inr (inr (inr (instances, refl, are)))))), final),
    )

pub items_of_form : (l : Limits) (ts rest : List Placed) → items_form l ts rest
    → (items : List ItemTree) × (AreItems l items ⨾ a_word words.Endmodule) ts rest
items_of_form l ts rest (k, (m, are, final)) =
    let groups = b_each (IsItem l) (items_row l) (b_item l) k ts m are in
    (flat_map (λ group. group) groups.0, (m, (groups.0, refl, groups.1), final))
