-- A stage may be written.
use Rattle.std.proofs.Common.{ℕ, List, [], ◌∷◌, ◌++◌, map, sym, ap, ◌∙◌, subst}
use Rattle.std.specs.Prelude.{if◌then◌else◌}
use Rattle.affine_ast.specs.declared.module.Arg.{Arg}
use Rattle.affine_ast.specs.declared.module.Module.{Module}
use Rattle.affine_ast.specs.declared.name.Name.{Name}
use Rattle.affine_ast.specs.Nest.{Plain, Nest, Nothing, Loop, Branch, Does, Value, Load, Store, RawLoad, RawStore, Constant, Binary, Cast, Alloc, Dealloc, Start, Wait, Return, followed_by, nest}
use Rattle.nest_domain.specs.declared.plan.Options.{Options}
use Rattle.affine_lex.specs.Tokens.{IsId}
use Rattle.numbered_names.specs.Numbers.{defined, value_names, number_of, numbered_name, numbered_arg}
use Rattle.numbered_names.proofs.Arguments.{names_of}
use Rattle.printed_texts.specs.Writable.{IsWritten, AllWritten, ArgumentsFit, MayBeWritten}
use Rattle.stage_laws.specs.Law.{IsStageOf}
use Rattle.stage_laws.proofs.Law.{stage_runs}
use Rattle.writable_modules.specs.Formed.{FormedPlain, Formed, IsFormed}
use Rattle.writable_modules.proofs.Walk.{names_front, valid_written, written_spelled}
use Rattle.stage_texts.specs.Shape.{IsNoReturn, Shaped}
use Rattle.stage_numbers.specs.Numbered.{NumberedPlain, AreNumbered, StageIsWritten, StageIsSpelled}
use Rattle.stage_texts.proofs.Law.{stage_names}
use Rattle.stage_texts.proofs.Shape.{stage_shape, written_shape}
use Rattle.stage_texts.proofs.Keeps.{stage_keeps}
use Rattle.stage_numbers.proofs.Parameters.{stage_numbered}

plain_formed : (p : Plain) → IsNoReturn p → NumberedPlain p → FormedPlain p
plain_formed (Value r pick at) h k = k
plain_formed (Load r m at ty) h k = k
plain_formed (Store x m at ty) h k = k
plain_formed (RawLoad r m at ty) h k = tt
plain_formed (RawStore x m at ty) h k = tt
plain_formed (Constant r z ty) h k = tt
plain_formed (Binary r op a b ty) h k = tt
plain_formed (Cast r kind x from to) h k = tt
plain_formed (Alloc r ty) h k = tt
plain_formed (Dealloc m ty) h k = tt
plain_formed (Start a aa b bb t ta n stride types) h k = k
plain_formed (Wait t at n ty) h k = k
plain_formed Return h k = absurd h

formed_by : (n : Nest) → Shaped n → AreNumbered n → Formed n
formed_by Nothing h k = tt
formed_by (Loop line v l u s body rest) h k = (h.0, k.0.0, k.0.1, formed_by body h.1 k.1, formed_by rest h.2 k.2)
formed_by (Branch line set names first has other rest) h k = (h.0, k.0, formed_by first h.1 k.1, formed_by other h.2 k.2, formed_by rest h.3 k.3)
formed_by (Does line p rest) h k = (plain_formed p h.0 k.0, formed_by rest h.1 k.1)

numbered_front : (a b : Nest) → AreNumbered (followed_by a b) → AreNumbered a
numbered_front Nothing b h = tt
numbered_front (Loop line v l u s body rest) b h = (h.0, h.1, numbered_front rest b h.2)
numbered_front (Branch line set names first has other rest) b h = (h.0, h.1, h.2, numbered_front rest b h.3)
numbered_front (Does line p rest) b h = (h.0, numbered_front rest b h.1)

written_right : (xs ys : List Name) → AllWritten (xs ++ ys) → AllWritten ys
written_right [] ys h = h
written_right (x ∷ xs) ys h = written_right xs ys h.1

arguments_fit : (k : ℕ) (names : List Name) (args : List Arg) → ArgumentsFit args → ArgumentsFit (map (numbered_arg (numbered_name k names)) args)
arguments_fit k names [] h = tt
arguments_fit k names (arg ∷ args) h =
    (record { name = subst (λ t. IsWritten (if t then number_of k names arg.name else arg.name)) (sym h.0.name.made) h.0.name; kind = h.0.kind }, arguments_fit k names args h.1)

stage_formed : (o : Options) (m q : Module) → AllWritten (value_names q) → MayBeWritten m → IsStageOf o m q → AreNumbered (nest q.body) → IsFormed q
stage_formed o m q names w is order =
    let shape = stage_shape o m q (written_shape m w) is in
    let args = is.is_ordered.arguments ∙ is.is_placed.arguments in
    let end = Does shape.line Return Nothing in
    record {
      name = subst IsId (sym is.is_numbered.name) w.name;
      args = subst ArgumentsFit (sym (is.is_numbered.args ∙ ap (map (numbered_arg (numbered_name is.is_numbered.underscore_count (value_names is.ordered)))) args)) (arguments_fit is.is_numbered.underscore_count (value_names is.ordered) m.args w.args);
      stmts = shape.stmts;
      line = shape.line;
      body = shape.body;
      formed = formed_by shape.stmts shape.shaped (numbered_front shape.stmts end (subst AreNumbered shape.body order));
      names = subst AllWritten (ap defined shape.body ∙ names_front shape.stmts shape.line) (written_right (names_of q.args) (defined (nest q.body)) names);
    }

pub stage_written : StageIsWritten
stage_written o m q valid v13 text w is =
    valid_written q (stage_runs o m q valid v13 text is).valid (stage_keeps o m q valid v13 text w is) (stage_formed o m q (stage_names o m q valid v13 text w is) w is (stage_numbered o m q valid v13 text w is))

pub stage_spelled : StageIsSpelled
stage_spelled o m q valid v13 text w is comments lines =
    written_spelled q (stage_runs o m q valid v13 text is).valid (stage_keeps o m q valid v13 text w is) (stage_formed o m q (stage_names o m q valid v13 text w is) w is (stage_numbered o m q valid v13 text w is)) comments lines
