use Rattle.std.proofs.Common.{map, inl, inr, ap, [], ◌∷◌}
use Rattle.sv_token.specs.declared.signs.SignKind.TheVariants as signs
use Rattle.sv_token.specs.declared.keywords.WordKind.TheVariants as words
use Rattle.sv_parse_expr.proofs.Halting.{passed, stops_then, stops_before}
use Rattle.sv_parse.proofs.DeclarationRuns.{reg_begun, registers_go_on}
use Rattle.sv_parse_stmt.proofs.SymbolsAlike.{word_is_there}
use Rattle.sv_parse.specs.ReadingDeclarations.{memory_end, memory_bounds}
use Rattle.sv_parse_machine.specs.Machine.{outside_on}
use Rattle.sv_parse_machine.specs.Symbols.{outer, punctuation, items, more_names}
use Rattle.sv_ast.specs.Views.{memory_tree, item_tree, declaration_tree}
use Rattle.sv_parse.proofs.ReadingDeclarations.{memory_is, first_register_is}
use Rattle.sv_parse_expr.proofs.ReadingLists.{list_is}
use Rattle.sv_parse_machine.proofs.ReadSteps.{reads_then, reads_before}
use Rattle.sv_parse_machine.proofs.ReadLists.{ends_listed}
use Rattle.sv_parse.proofs.registers.read_registers.Goals as goal

pub returns-in_err-_place-clause-halts : goal.returns-in_err-_place-clause-halts
returns-in_err-_place-clause-halts c =
    λ next. passed _ _ _ c.from_residual.ensures.1
    (word_is_there _ words.Reg _ _ _ _ next
    (c.in_err-_place.ensures.stops c.args.input.bytes.now))

pub returns-in_err-memory-clause-halts : goal.returns-in_err-memory-clause-halts
returns-in_err-memory-clause-halts c =
    λ next. passed _ _ _ c.from_residual-in_err-memory.ensures.1
    (stops_then _ _ _ _ _
    (reg_begun c.in_ok-of.of.label memory_end _ _ _ _
    (c.in_ok-_place._place, c.in_ok-_place.ensures.is c.args.input.bytes.now)
    c.in_ok-of.ensures.reads c.in_ok-name.ensures.reads
    (c.is_memory.ensures.words c.args.input.bytes.now c.if-is_memory.true))
    (stops_before (outside_on memory_bounds)
    (outer (punctuation signs.Semicolon) ∷ outer items ∷ []) _ _
    (c.in_err-memory.ensures.halts c.args.input.bytes.now)))

pub returns-then-is_memory-clause-is : goal.returns-then-is_memory-clause-is
returns-then-is_memory-clause-is c =
    inr (
      memory_tree c.in_ok-memory.memory ∷ [],
      ap (map item_tree) c.in_ok-items.ensures,
      memory_is _ _ c.in_ok-of.of.label _ _ _ _ _ _ _ _
          (c.in_ok-_place._place, c.in_ok-_place.ensures.is c.args.input.bytes.now)
          c.in_ok-of.ensures.is c.in_ok-name.ensures.is
          (c.is_memory.ensures.memory c.if-is_memory.true)
          (c.in_ok-memory.ensures.is c.args.input.bytes.now),
    )

pub returns-in_err-decls-clause-halts : goal.returns-in_err-decls-clause-halts
returns-in_err-decls-clause-halts c =
    λ next. passed _ _ _ c.from_residual-in_err-decls.ensures.1
    (stops_then _ _ _ _ _
    (reg_begun c.in_ok-of.of.label (more_names signs.Semicolon ∷ []) _ _ _ _
    (c.in_ok-_place._place, c.in_ok-_place.ensures.is c.args.input.bytes.now)
    c.in_ok-of.ensures.reads c.in_ok-name.ensures.reads
    (c.is_memory.ensures.names c.args.input.bytes.now c.if-is_memory.false))
    (stops_before (outer (more_names signs.Semicolon) ∷ []) (outer items ∷ []) _ _
    (c.in_err-decls.ensures.halts (outer (more_names signs.Semicolon) ∷ []) registers_go_on)))

pub returns-clause-is : goal.returns-clause-is
returns-clause-is c =
    inl (
      map declaration_tree c.in_ok-decls.decls.items,
      c.in_ok-items-2.ensures,
      list_is _ _ _ _ _ _ _ _
          (first_register_is _ _ c.in_ok-of.of.label _ _ _ _ _ _ _ c.first_register-first.ensures
          (c.in_ok-_place._place, c.in_ok-_place.ensures.is c.args.input.bytes.now)
          c.in_ok-of.ensures.is c.in_ok-name.ensures.is
          (c.is_memory.ensures.signal c.if-is_memory.false))
          c.in_ok-decls.ensures.is,
    )

pub returns-clause-reads : goal.returns-clause-reads
returns-clause-reads c =
    λ next. reads_then _ _ _ _ _ _
    (reg_begun c.in_ok-of.of.label (more_names signs.Semicolon ∷ []) _ _ _ _
    (c.in_ok-_place._place, c.in_ok-_place.ensures.is c.args.input.bytes.now)
    c.in_ok-of.ensures.reads c.in_ok-name.ensures.reads
    (c.is_memory.ensures.names c.args.input.bytes.now c.if-is_memory.false))
    (reads_then _ _ _ _ _ _
    (reads_before (outer (more_names signs.Semicolon) ∷ [])
    (outer (more_names signs.Semicolon) ∷ []) (outer items ∷ []) _ _
    (c.in_ok-decls.ensures.reads (outer (more_names signs.Semicolon) ∷ []) registers_go_on))
    (reads_before (outer (more_names signs.Semicolon) ∷ [])
    (outer (punctuation signs.Semicolon) ∷ []) (outer items ∷ []) _ _
    (ends_listed _ c.in_ok-decls.ensures.ends)))
