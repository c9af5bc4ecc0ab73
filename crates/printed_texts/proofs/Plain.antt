-- Statements without regions are spelled again.
use Rattle.std.proofs.Common.{◌≡◌, ℕ, ◌≤◌, ℤ, true, false, List, [], ◌∷◌, ◌++◌, Option, Some, None, codes, refl, sym, ◌∙◌, subst, append_assoc, append-nil, inl, inr}
use Rattle.std.specs.Fmt.{signed_decimal}
use Rattle.readers.specs.Languages.{One, Both, Optional}
use Rattle.affine_ast.specs.declared.name.Name.{Name}
use Rattle.affine_ast.specs.declared.types.Access.{Access}
use Rattle.affine_ast.specs.declared.types.Scalar.{Scalar}
use Rattle.affine_ast.specs.declared.types.MemrefType.{MemrefType}
use Rattle.affine_ast.specs.declared.types.Pick.{Pick}
use Rattle.affine_ast.specs.declared.types.Pick.TheVariants as pick
use Rattle.affine_ast.specs.declared.stmt.What.{What}
use Rattle.affine_ast.specs.declared.stmt.What.TheVariants as what
use Rattle.affine_ast.specs.Nest.{Nothing as NoStatement, put_what}
use Rattle.affine_ast.specs.Spelling.{name_text, names_text, listed, statement_text, defined_text, named_text, place_text, raw_place_text, value_word, value_text, use_text, subscripts_text, load_text, store_text, raw_load_text, raw_store_text, constant_text, binary_text, cast_text, cast_types_text, alloc_text, dealloc_text, operation_word, cast_word, pair_text, typed_text, scalar_text, scalar_typed_text, memref_text, stride_text, first_place_text, ends_text, amount_text, wait_text}
use Rattle.affine_ast.proofs.Spellings.{statement-Value, statement-Load, statement-Store, statement-RawLoad, statement-RawStore, statement-Constant, statement-Binary, statement-Cast, statement-Alloc, statement-Dealloc, statement-Start, statement-Wait}
use Rattle.affine_ast.proofs.Nests.{put-Value, put-Load, put-Store, put-Start, put-Wait}
use Rattle.int_ops.specs.declared.operation.Op.{Op}
use Rattle.int_ops.specs.declared.operation.Op.TheVariants as op
use Rattle.int_ops.specs.declared.operation.CastKind.{CastKind}
use Rattle.int_ops.specs.declared.operation.CastKind.TheVariants as cast
use Rattle.affine_grammar.specs.declared.words.Action.TheVariants as action
use Rattle.affine_grammar.specs.declared.words.Definition.TheVariants as definition
use Rattle.affine_grammar.specs.Token.{Tok, value, definition_word, definition_of, action_word, action_of}
use Rattle.affine_grammar.specs.GrammarFile.{Typed, Regions, Defined, Acted, Part, Stride}
use Rattle.printed_texts.specs.Nesting.{StatementsNest, UseNests}
pub use Rattle.printed_texts.specs.Writable.{StrideWritten}
use Rattle.printed_texts.proofs.Pieces.{ends, Prints, seq, in_left, in_right, giving, nothing, loosen, blank_before, blank_behind}
use Rattle.printed_texts.proofs.Marks.{keyword, word_piece, open_paren, close_paren, comma, colon}
use Rattle.printed_texts.proofs.Given.{Given, IsWritten, given_left, given_right, given_one, value_given, value_prints}
use Rattle.printed_texts.proofs.Uses.{ToldUse, ToldSubscripts, AllWritten, brackets_again}
use Rattle.printed_texts.proofs.Types.{InRange, signed_again, TypeFits, memref_told, memref_again, typed_again, scalar_again}

-- ---- statements with a result

-- what stands behind the `=` of a statement of a given text
pub record ToldDefinition (r : Name) (w : What) (total behind : ℕ) : Type 0 where
  pub text : List ℕ
  pub text_is : (margin : List ℕ) → statement_text margin w ≡ name_text r ++ (codes " = " ++ text)
  pub small : total ≤ 1048576 → behind ≤ 1048576
  pub again : total ≤ 1048576 → (line : ℕ) → StatementsNest (put_what w line NoStatement) → Prints true text (Both (One definition_word) (λ d. Defined [] total r d)) (w, behind)

pick_again : (p : Pick) → Prints false (value_word p) (One definition_word) (definition.Value p)
unfolding definition_of
pick_again pick.Apply = blank_behind (word_piece (codes "affine.apply") definition_word (definition.Value pick.Apply) refl (λ line column. refl))
pick_again pick.Min = blank_behind (word_piece (codes "affine.min") definition_word (definition.Value pick.Min) refl (λ line column. refl))
pick_again pick.Max = blank_behind (word_piece (codes "affine.max") definition_word (definition.Value pick.Max) refl (λ line column. refl))

op_again : (o : Op) → Prints false (operation_word o) (One definition_word) (definition.Binary o)
unfolding definition_of
op_again op.Add = blank_behind (word_piece (codes "arith.addi") definition_word (definition.Binary op.Add) refl (λ line column. refl))
op_again op.Sub = blank_behind (word_piece (codes "arith.subi") definition_word (definition.Binary op.Sub) refl (λ line column. refl))
op_again op.Mul = blank_behind (word_piece (codes "arith.muli") definition_word (definition.Binary op.Mul) refl (λ line column. refl))
op_again op.DivS = blank_behind (word_piece (codes "arith.divsi") definition_word (definition.Binary op.DivS) refl (λ line column. refl))
op_again op.RemS = blank_behind (word_piece (codes "arith.remsi") definition_word (definition.Binary op.RemS) refl (λ line column. refl))
op_again op.DivU = blank_behind (word_piece (codes "arith.divui") definition_word (definition.Binary op.DivU) refl (λ line column. refl))
op_again op.RemU = blank_behind (word_piece (codes "arith.remui") definition_word (definition.Binary op.RemU) refl (λ line column. refl))
op_again op.FloorDivS = blank_behind (word_piece (codes "arith.floordivsi") definition_word (definition.Binary op.FloorDivS) refl (λ line column. refl))
op_again op.CeilDivS = blank_behind (word_piece (codes "arith.ceildivsi") definition_word (definition.Binary op.CeilDivS) refl (λ line column. refl))
op_again op.And = blank_behind (word_piece (codes "arith.andi") definition_word (definition.Binary op.And) refl (λ line column. refl))
op_again op.Or = blank_behind (word_piece (codes "arith.ori") definition_word (definition.Binary op.Or) refl (λ line column. refl))
op_again op.Xor = blank_behind (word_piece (codes "arith.xori") definition_word (definition.Binary op.Xor) refl (λ line column. refl))
op_again op.MaxS = blank_behind (word_piece (codes "arith.maxsi") definition_word (definition.Binary op.MaxS) refl (λ line column. refl))
op_again op.MinS = blank_behind (word_piece (codes "arith.minsi") definition_word (definition.Binary op.MinS) refl (λ line column. refl))
op_again op.MaxU = blank_behind (word_piece (codes "arith.maxui") definition_word (definition.Binary op.MaxU) refl (λ line column. refl))
op_again op.MinU = blank_behind (word_piece (codes "arith.minui") definition_word (definition.Binary op.MinU) refl (λ line column. refl))

cast_again : (c : CastKind) → Prints false (cast_word c) (One definition_word) (definition.Cast c)
unfolding definition_of
cast_again cast.Index = blank_behind (word_piece (codes "arith.index_cast") definition_word (definition.Cast cast.Index) refl (λ line column. refl))
cast_again cast.ExtS = blank_behind (word_piece (codes "arith.extsi") definition_word (definition.Cast cast.ExtS) refl (λ line column. refl))
cast_again cast.ExtU = blank_behind (word_piece (codes "arith.extui") definition_word (definition.Cast cast.ExtU) refl (λ line column. refl))
cast_again cast.Trunc = blank_behind (word_piece (codes "arith.trunci") definition_word (definition.Cast cast.Trunc) refl (λ line column. refl))

load_word : Prints false (codes "affine.load ") (One definition_word) definition.Load
unfolding definition_of
load_word = blank_behind (word_piece (codes "affine.load") definition_word definition.Load refl (λ line column. refl))

raw_load_word : Prints false (codes "memref.load ") (One definition_word) definition.RawLoad
unfolding definition_of
raw_load_word = blank_behind (word_piece (codes "memref.load") definition_word definition.RawLoad refl (λ line column. refl))

constant_word : Prints false (codes "arith.constant ") (One definition_word) definition.Constant
unfolding definition_of
constant_word = blank_behind (word_piece (codes "arith.constant") definition_word definition.Constant refl (λ line column. refl))

alloc_word : Prints true (codes "memref.alloc") (One definition_word) definition.Alloc
unfolding definition_of
alloc_word = word_piece (codes "memref.alloc") definition_word definition.Alloc refl (λ line column. refl)

module _ (r : Name) (total : ℕ) where
  pub value_definition : (p : Pick) (at : Access) (behind : ℕ) → ToldUse at total behind → ToldDefinition r (what.Value r p at) total behind
  unfolding value_text defined_text
  value_definition p at behind t = record {
    text = value_word p ++ use_text at;
    text_is = λ margin. statement-Value margin r p at ∙ simp append_assoc refl;
    small = t.small;
    again = λ h line n.
        let m = subst StatementsNest (put-Value line NoStatement r p at) n in
        seq (pick_again p) tt (loosen (giving (λ (q : Access × ℕ). let x : What × ℕ = (what.Value r p q.0, q.1) in x) (t.again true (inl refl) (t.small h) m.0)));
  }

  pub load_definition : (m : Name) (at : Access) (behind : ℕ) (ty : MemrefType) → IsWritten m → ToldSubscripts at total behind → TypeFits ty → ToldDefinition r (what.Load r m at ty) total behind
  unfolding load_text defined_text place_text subscripts_text
  load_definition m at behind ty w t y = record {
    text = codes "affine.load " ++ (name_text m ++ (subscripts_text at ++ typed_text ty));
    text_is = λ margin. statement-Load margin r m at ty ∙ simp append_assoc refl;
    small = t.small;
    again = λ h line n.
        let k = subst StatementsNest (put-Load line NoStatement r m at ty) n in
        seq load_word tt (seq (value_prints m w) (λ r c. refl) (seq (t.again (t.small h) k.0) tt (typed_again (λ ty. let x : What × ℕ = (what.Load r m at ty, behind) in x) ty y)));
  }

  pub raw_load_definition : (m : Name) (vs : List Name) (ty : MemrefType) → IsWritten m → AllWritten vs → TypeFits ty → ToldDefinition r (what.RawLoad r m vs ty) total total
  unfolding raw_load_text defined_text raw_place_text
  raw_load_definition m vs ty w a y = record {
    text = codes "memref.load " ++ (name_text m ++ ((codes "[" ++ (names_text vs ++ codes "]")) ++ typed_text ty));
    text_is = λ margin. statement-RawLoad margin r m vs ty ∙ simp append_assoc refl;
    small = λ h. h;
    again = λ h line n. seq raw_load_word tt (seq (value_prints m w) (λ r c. refl) (seq (brackets_again vs a) tt (typed_again (λ ty. let x : What × ℕ = (what.RawLoad r m vs ty, total) in x) ty y)));
  }

  pub constant_definition : (z : ℤ) (ty : Scalar) → InRange z → ToldDefinition r (what.Constant r z ty) total total
  unfolding constant_text defined_text scalar_typed_text
  constant_definition z ty i = record {
    text = codes "arith.constant " ++ (signed_decimal z ++ (codes " : " ++ scalar_text ty));
    text_is = λ margin. statement-Constant margin r z ty ∙ simp append_assoc refl;
    small = λ h. h;
    again = λ h line n. seq constant_word tt (seq (signed_again z i) (λ r c. refl) (seq colon tt (giving (λ ty. let x : What × ℕ = (what.Constant r z ty, total) in x) (scalar_again ty))));
  }

  pub binary_definition : (o : Op) (a b : Name) (ty : Scalar) → IsWritten a → IsWritten b → ToldDefinition r (what.Binary r o a b ty) total total
  unfolding binary_text defined_text scalar_typed_text pair_text
  binary_definition o a b ty v w = record {
    text = operation_word o ++ (name_text a ++ (codes ", " ++ (name_text b ++ (codes " : " ++ scalar_text ty))));
    text_is = λ margin. statement-Binary margin r o a b ty ∙ simp append_assoc refl;
    small = λ h. h;
    again = λ h line n. seq (op_again o) tt (seq (value_prints a v) (λ r c. refl) (seq comma tt (seq (value_prints b w) (λ r c. refl) (seq colon tt (giving (λ ty. let x : What × ℕ = (what.Binary r o a b ty, total) in x) (scalar_again ty))))));
  }

  pub cast_definition : (c : CastKind) (v : Name) (from to : Scalar) → IsWritten v → ToldDefinition r (what.Cast r c v from to) total total
  unfolding cast_text defined_text cast_types_text scalar_typed_text
  cast_definition c v from to w = record {
    text = cast_word c ++ (name_text v ++ (codes " : " ++ (scalar_text from ++ (codes " to " ++ scalar_text to))));
    text_is = λ margin. statement-Cast margin r c v from to ∙ simp append_assoc refl;
    small = λ h. h;
    again = λ h line n. seq (cast_again c) tt (seq (value_prints v w) (λ r c. refl) (seq colon tt (seq (scalar_again from) (λ r c. refl) (seq (blank_before (blank_behind (keyword (codes "to") refl refl))) tt (giving (λ to. let x : What × ℕ = (what.Cast r c v from to, total) in x) (scalar_again to))))));
  }

  pub alloc_definition : (ty : MemrefType) → TypeFits ty → ToldDefinition r (what.Alloc r ty) total total
  unfolding alloc_text defined_text
  alloc_definition ty y = record {
    text = codes "memref.alloc" ++ (codes "(" ++ (codes ")" ++ typed_text ty));
    text_is = λ margin. statement-Alloc margin r ty ∙ simp append_assoc refl;
    small = λ h. h;
    again = λ h line n. seq alloc_word (λ r c. refl) (seq open_paren tt (seq close_paren tt (typed_again (λ ty. let x : What × ℕ = (what.Alloc r ty, total) in x) ty y)));
  }

-- a value of a given text
pub value_of : (f : List Tok) (n : Name) → Given f → One value f n → IsWritten n
value_of f n g h = value_given h.token n (given_one f h.token h.alone g) h.accepted

-- a type behind its colon
pub typed_told : {A : Type 0} (make : MemrefType → A) (x : A) (f : List Tok) → Typed make f x → (ty : MemrefType) × (TypeFits ty × (x ≡ make ty))
typed_told make x f h = (h.second.value, (memref_told h.second.value h.second.left h.second.first, h.second.second.1))

-- ---- statements without a result

-- a statement of a given text that has no region
pub record ToldAction (R : Regions) (w : What) (total behind : ℕ) : Type 0 where
  pub text : List ℕ
  pub text_is : (margin : List ℕ) → statement_text margin w ≡ text
  pub small : total ≤ 1048576 → behind ≤ 1048576
  pub again : total ≤ 1048576 → (line : ℕ) → StatementsNest (put_what w line NoStatement) → Prints true text (Both (One action_word) (λ a. Acted R [] total a)) (w, behind)

store_word : Prints false (codes "affine.store ") (One action_word) action.Store
unfolding action_of
store_word = blank_behind (word_piece (codes "affine.store") action_word action.Store refl (λ line column. refl))

raw_store_word : Prints false (codes "memref.store ") (One action_word) action.RawStore
unfolding action_of
raw_store_word = blank_behind (word_piece (codes "memref.store") action_word action.RawStore refl (λ line column. refl))

dealloc_word : Prints false (codes "memref.dealloc ") (One action_word) action.Dealloc
unfolding action_of
dealloc_word = blank_behind (word_piece (codes "memref.dealloc") action_word action.Dealloc refl (λ line column. refl))

start_word : Prints false (codes "affine.dma_start ") (One action_word) action.Start
unfolding action_of
start_word = blank_behind (word_piece (codes "affine.dma_start") action_word action.Start refl (λ line column. refl))

wait_word : Prints false (codes "affine.dma_wait ") (One action_word) action.Wait
unfolding action_of
wait_word = blank_behind (word_piece (codes "affine.dma_wait") action_word action.Wait refl (λ line column. refl))

pub for_word : Prints false (codes "affine.for ") (One action_word) action.For
unfolding action_of
for_word = blank_behind (word_piece (codes "affine.for") action_word action.For refl (λ line column. refl))

pub if_word : Prints false (codes "affine.if ") (One action_word) action.If
unfolding action_of
if_word = blank_behind (word_piece (codes "affine.if") action_word action.If refl (λ line column. refl))

-- a memref with its subscripts
pub record ToldPart (m : Name) (at : Access) (total behind : ℕ) : Type 0 where
  pub name : IsWritten m
  pub subscripts : ToldSubscripts at total behind

part_again : (m : Name) (at : Access) (total behind : ℕ) → ToldPart m at total behind → total ≤ 1048576 → UseNests at → Prints false (name_text m ++ subscripts_text at) (Part total) (m, (at, behind))
unfolding subscripts_text
part_again m at total behind t h n = seq (value_prints m t.name) (λ r c. refl) (giving (λ (p : Access × ℕ). let x : Name × (Access × ℕ) = (m, p) in x) (t.subscripts.again (t.subscripts.small h) n))

pub stride_told : (s : Option (Name × Name)) (f : List Tok) → Given f → Optional Stride None f s → StrideWritten s
stride_told s f g (inr h) = subst StrideWritten (sym h.1) tt
stride_told s f g (inl h) =
    let i = h.second in
    let j = i.second.second in
    let g1 = given_right f h.left h.right h.parts g in
    let g2 = given_right h.right i.left i.right i.parts g1 in
    let g3 = given_right i.right i.second.left i.second.right i.second.parts g2 in
    subst StrideWritten (sym j.second.1) (value_of i.left i.value (given_left h.right i.left i.right i.parts g1) i.first, value_of j.left j.value (given_left i.second.right j.left j.right j.parts g3) j.first)

stride_again : (s : Option (Name × Name)) → StrideWritten s → Prints true (stride_text s) (Optional Stride None) s
unfolding stride_text pair_text
stride_again None h = in_right (nothing None)
stride_again (Some (stride, chunk)) h = in_left (seq comma tt (seq (value_prints stride h.0) (λ r c. refl) (seq comma tt (giving (λ chunk. Some (stride, chunk)) (value_prints chunk h.1)))))

stride_joins : (s : Option (Name × Name)) (r : List ℕ) → ends r ≡ true → ends (stride_text s ++ r) ≡ true
unfolding stride_text
stride_joins None r h = h
stride_joins (Some p) r h = refl

-- the pieces of a transfer, one behind the other
start_pieces : (w k o a aa b bb c cd n s t u v : List ℕ)
    → (((w ++ a) ++ aa) ++ (k ++ ((b ++ bb) ++ (k ++ (c ++ cd))))) ++ (k ++ (n ++ (s ++ (o ++ (t ++ ((k ++ u) ++ ((k ++ v) ++ []))))))) ≡ w ++ ((a ++ aa) ++ (k ++ ((b ++ bb) ++ (k ++ ((c ++ cd) ++ (k ++ (n ++ (s ++ (o ++ (t ++ (k ++ (u ++ (k ++ v)))))))))))))
start_pieces w k o a aa b bb c cd n s t u v = simp (append_assoc, append-nil) refl

module _ (R : Regions) (total : ℕ) where
  pub store_action : (x m : Name) (at : Access) (behind : ℕ) (ty : MemrefType) → IsWritten x → IsWritten m → ToldSubscripts at total behind → TypeFits ty → ToldAction R (what.Store x m at ty) total behind
  unfolding store_text named_text place_text subscripts_text
  store_action x m at behind ty v w t y = record {
    text = codes "affine.store " ++ (name_text x ++ (codes ", " ++ (name_text m ++ (subscripts_text at ++ typed_text ty))));
    text_is = λ margin. statement-Store margin x m at ty ∙ simp append_assoc refl;
    small = t.small;
    again = λ h line n.
        let k = subst StatementsNest (put-Store line NoStatement x m at ty) n in
        seq store_word tt (seq (value_prints x v) (λ r c. refl) (seq comma tt (seq (value_prints m w) (λ r c. refl) (seq (t.again (t.small h) k.0) tt (typed_again (λ ty. let p : What × ℕ = (what.Store x m at ty, behind) in p) ty y)))));
  }

  pub raw_store_action : (x m : Name) (vs : List Name) (ty : MemrefType) → IsWritten x → IsWritten m → AllWritten vs → TypeFits ty → ToldAction R (what.RawStore x m vs ty) total total
  unfolding raw_store_text named_text raw_place_text
  raw_store_action x m vs ty v w a y = record {
    text = codes "memref.store " ++ (name_text x ++ (codes ", " ++ (name_text m ++ ((codes "[" ++ (names_text vs ++ codes "]")) ++ typed_text ty))));
    text_is = λ margin. statement-RawStore margin x m vs ty ∙ simp append_assoc refl;
    small = λ h. h;
    again = λ h line n. seq raw_store_word tt (seq (value_prints x v) (λ r c. refl) (seq comma tt (seq (value_prints m w) (λ r c. refl) (seq (brackets_again vs a) tt (typed_again (λ ty. let p : What × ℕ = (what.RawStore x m vs ty, total) in p) ty y)))));
  }

  pub dealloc_action : (m : Name) (ty : MemrefType) → IsWritten m → TypeFits ty → ToldAction R (what.Dealloc m ty) total total
  unfolding dealloc_text named_text typed_text
  dealloc_action m ty w y = record {
    text = codes "memref.dealloc " ++ (name_text m ++ typed_text ty);
    text_is = λ margin. statement-Dealloc margin m ty ∙ simp append_assoc refl;
    small = λ h. h;
    again = λ h line n. seq dealloc_word tt (seq (value_prints m w) (λ r c. refl) (typed_again (λ ty. let p : What × ℕ = (what.Dealloc m ty, total) in p) ty y));
  }

  pub wait_action : (m : Name) (at : Access) (behind : ℕ) (n : Name) (ty : MemrefType) → ToldPart m at total behind → IsWritten n → TypeFits ty → ToldAction R (what.Wait m at n ty) total behind
  unfolding wait_text first_place_text named_text typed_text
  wait_action m at behind n ty t w y = record {
    text = codes "affine.dma_wait " ++ ((name_text m ++ subscripts_text at) ++ (codes ", " ++ (name_text n ++ typed_text ty)));
    text_is = λ margin. statement-Wait margin m at n ty ∙ simp append_assoc refl;
    small = t.subscripts.small;
    again = λ h line q.
        let k = subst StatementsNest (put-Wait line NoStatement m at n ty) q in
        seq wait_word tt (seq (part_again m at total behind t h k.0) tt (seq comma tt (seq (value_prints n w) (λ r c. refl) (typed_again (λ ty. let p : What × ℕ = (what.Wait m at n ty, behind) in p) ty y))));
  }

  pub start_action : (a : Name) (aa : Access) (b : Name) (bb : Access) (c : Name) (cc' : Access) (n : Name) (s : Option (Name × Name)) (t u v : MemrefType) (n1 n2 n3 : ℕ)
      → ToldPart a aa total n1 → ToldPart b bb n1 n2 → ToldPart c cc' n2 n3 → IsWritten n → StrideWritten s → TypeFits t → TypeFits u → TypeFits v → ToldAction R (what.Start a aa b bb c cc' n s (t ∷ u ∷ v ∷ [])) total n3
  unfolding ends_text first_place_text named_text pair_text place_text amount_text listed
  start_action a aa b bb c cc' n s t u v n1 n2 n3 pa pb pc wn ws wt wu wv = record {
    text = codes "affine.dma_start " ++ ((name_text a ++ subscripts_text aa) ++ (codes ", " ++ ((name_text b ++ subscripts_text bb) ++ (codes ", " ++ ((name_text c ++ subscripts_text cc') ++ (codes ", " ++ (name_text n ++ (stride_text s ++ (codes " : " ++ (memref_text t ++ (codes ", " ++ (memref_text u ++ (codes ", " ++ memref_text v)))))))))))));
    text_is = λ margin. statement-Start margin a aa b bb c cc' n s (t ∷ u ∷ v ∷ []) ∙ start_pieces (codes "affine.dma_start ") (codes ", ") (codes " : ") (name_text a) (subscripts_text aa) (name_text b) (subscripts_text bb) (name_text c) (subscripts_text cc') (name_text n) (stride_text s) (memref_text t) (memref_text u) (memref_text v);
    small = λ h. pc.subscripts.small (pb.subscripts.small (pa.subscripts.small h));
    again = λ h line q.
        let k = subst StatementsNest (put-Start line NoStatement a aa b bb c cc' n s (t ∷ u ∷ v ∷ [])) q in
        let h1 = pa.subscripts.small h in
        let h2 = pb.subscripts.small h1 in
        let types = seq (memref_again t wt) (λ r c. refl) (seq comma tt (seq (memref_again u wu) (λ r c. refl) (seq comma tt (giving (λ v. let p : What × ℕ = (what.Start a aa b bb c cc' n s (t ∷ u ∷ v ∷ []), n3) in p) (memref_again v wv))))) in
        let amount = seq (value_prints n wn) (λ r x. subst (λ l. ends l ≡ true) (sym (append_assoc (stride_text s) (codes " : " ++ (memref_text t ++ (codes ", " ++ (memref_text u ++ (codes ", " ++ memref_text v))))) r)) (stride_joins s _ refl)) (seq (stride_again s ws) (λ r x. refl) (seq colon tt types)) in
        seq start_word tt (seq (part_again a aa total n1 pa h k.0.0) tt (seq comma tt (seq (part_again b bb n1 n2 pb h1 k.0.1) tt (seq comma tt (seq (part_again c cc' n2 n3 pc h2 k.0.2) tt (seq comma tt amount))))));
  }
