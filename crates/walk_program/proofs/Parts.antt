-- What is numbered part by part is numbered as a whole.
use Rattle.std.proofs.Common.{◌≡◌, ◌<◌, ℕ, ℤ, List, [], ◌∷◌, ◌++◌, length, refl, sym, ap, subst, ◌∙◌, arith}
use Rattle.std.specs.Prelude.{max, Option, Some, None, Result, Ok, Err, IfOk}
use Rattle.std.proofs.lemmas.List.{map-append, length-map, append-nil}
use Rattle.std.proofs.lemmas.List.Elements.{All-push}
use Rattle.std.specs.declared.alloc.AllocError.{AllocError}
use Rattle.int_ops.specs.declared.operation.CastKind.{CastKind}
use Rattle.int_ops.specs.declared.operation.Op.{Op}
use Rattle.affine_expr.specs.declared.map.Map.{Map}
use Rattle.affine_ast.specs.declared.name.Name.{Name}
use Rattle.affine_ast.specs.declared.types.Access.{Access}
use Rattle.affine_ast.specs.declared.types.Bound.{Bound}
use Rattle.affine_ast.specs.declared.types.Bound.TheVariants as bound
use Rattle.affine_ast.specs.declared.types.MemrefType.{MemrefType}
use Rattle.affine_ast.specs.declared.types.Pick.{Pick}
use Rattle.affine_ast.specs.declared.types.Scalar.{Scalar}
use Rattle.affine_ast.specs.Nest as named
use Rattle.walk_program.specs.declared.plain.Limit.TheVariants as limit
use Rattle.walk_program.specs.declared.plain.Plain.TheVariants as plain
use Rattle.walk_program.specs.declared.plain.Subscripts.{Subscripts}
use Rattle.walk_program.specs.declared.plain.Limit.{Limit}
use Rattle.walk_program.specs.Names.{name_at, uses_in_bound}
use Rattle.affine_ast.specs.Parts.{stride_names}
use Rattle.walk_program.specs.Widths.{width_in_bound}
use Rattle.walk_program.specs.Numbering.{Table, Grows, Numbers, IsNumber, AreNumbers, AreOperands, IsSubscripts, IsLimit, IsStride, IsPlain, NumbersPlain}
use Rattle.walk_program.specs.Reading.{plain_of}
use Rattle.walk_program.proofs.Tables.{both, becomes, nothing, grows-trans}

-- a result that is a number
pub ok_at : (r : Result ℕ AllocError) (P : ℕ → Type 0) (k : ℕ) → IfOk r (λ n. n ≡ k) → P k → IfOk r P
ok_at (Ok n) P k e h = subst P (sym e) h
ok_at (Err x) P k e h = tt

-- a name more
pub names-push : (ks : List ℕ) (ns ms : List Name) (k : ℕ) (n : Name) (a b c : Table) → ms ≡ ns ++ n ∷ [] → Numbers (AreNumbers ks ns) ns 0 a b → Numbers (IsNumber k n) (n ∷ []) 0 b c → Numbers (AreNumbers (ks ++ k ∷ []) ms) ms 0 a c
names-push ks ns ms k n a b c e x y = becomes (both x y) (sym e) (omega arith) (λ t p. record {
  fits = All-push (λ j. j < length t.names) ks k p.0.fits p.1.fits;
  reads = map-append (name_at t.names) ks (k ∷ []) ∙ (λ i. p.0.reads i ++ p.1.reads i ∷ []) ∙ sym e;
})

pub no_names : (a : Table) → Numbers (AreNumbers [] []) [] 0 a a
no_names a = nothing a (λ t. record { fits = λ k d h. absurd (omega (arith, h)); reads = refl })

-- a list with a width that has room for it
pub operands_noted : (ks : List ℕ) (ns : List Name) (a b c : Table) → Numbers (AreNumbers ks ns) ns 0 a b → c.names ≡ b.names → c.width ≡ max b.width (length ks) → Numbers (AreOperands ks ns) ns (length ns) a c
operands_noted ks ns a b c x names width = record {
  names = names ∙ x.names;
  wide = let s = size in omega (arith, width, s, x.wide);
  lasting = λ t g. let n = x.lasting t (grows-trans b c t later g) in record {
    fits = record { below = n.fits; short = omega (arith, g.width, width) };
    reads = n.reads;
  };
}
  where
    later : Grows b c
    later = record { more = []; names = names ∙ sym (append-nil b.names); width = omega (arith, width) }

    size : length ks ≡ length ns
    size = sym (length-map ks (name_at c.names)) ∙ ap length (x.lasting c later).reads

pub numbers-subscripts : (ks : List ℕ) (ns : List Name) (at : Access) (m : Map) (a b : Table) → m ≡ at.map → ns ≡ at.operands → Numbers (AreOperands ks ns) ns (length ns) a b
    → Numbers (IsSubscripts (record { map = m; operands = ks }) at) at.operands (length at.operands) a b
numbers-subscripts ks ns at m a b e d x = becomes x d (ap length d) (λ t p. record { fits = p.fits; reads = λ i. record { map = e i; operands = (p.reads ∙ d) i } })

pub limit-Int : (z : ℤ) (c : Table) → Numbers (IsLimit (limit.Int z) (bound.Int z)) [] 0 c c
limit-Int z c = nothing c (λ t. record { fits = tt; reads = refl })

-- a bound that is another
pub limit_arm : (l : Limit) (x y : Bound) (a b : Table) → x ≡ y → Numbers (IsLimit l y) (uses_in_bound y) (width_in_bound y) a b → Numbers (IsLimit l x) (uses_in_bound x) (width_in_bound x) a b
limit_arm l x y a b e = subst (λ z. Numbers (IsLimit l z) (uses_in_bound z) (width_in_bound z) a b) (sym e)

module _ {a b : Table} where
  pub limit-Value : (k : ℕ) (n : Name) → Numbers (IsNumber k n) (n ∷ []) 0 a b → Numbers (IsLimit (limit.Value k) (bound.Value n)) (n ∷ []) 0 a b
  limit-Value k n x = becomes x refl refl (λ t p. record { fits = p.fits; reads = ap bound.Value p.reads })

  pub limit-Map : (s : Subscripts) (at : Access) → Numbers (IsSubscripts s at) at.operands (length at.operands) a b → Numbers (IsLimit (limit.Map s) (bound.Map at)) at.operands (length at.operands) a b
  limit-Map s at x = becomes x refl refl (λ t p. record { fits = p.fits; reads = ap bound.Map p.reads })

pub stride_arm : (l : Option (ℕ × ℕ)) (x y : Option (Name × Name)) (a b : Table) → x ≡ y → Numbers (IsStride l y) (stride_names y) 0 a b → Numbers (IsStride l x) (stride_names x) 0 a b
stride_arm l x y a b e = subst (λ z. Numbers (IsStride l z) (stride_names z) 0 a b) (sym e)

pub stride-None : (a : Table) → Numbers (IsStride None None) [] 0 a a
stride-None a = nothing a (λ t. record { fits = tt; reads = refl })

pub stride-Some : {j k : ℕ} {m n : Name} {a b c : Table} → Numbers (IsNumber j m) (m ∷ []) 0 a b → Numbers (IsNumber k n) (n ∷ []) 0 b c → Numbers (IsStride (Some (j, k)) (Some (m, n))) (m ∷ n ∷ []) 0 a c
stride-Some x y = becomes (both x y) refl (omega arith) (λ t p. record { fits = (p.0.fits, p.1.fits); reads = λ i. Some (p.0.reads i, p.1.reads i) })

module _ {r : ℕ} {R : Name} {a b : Table} (x : Numbers (IsNumber r R) (R ∷ []) 0 a b) where
  pub plain-Value : {s : Subscripts} {at : Access} {c : Table} (pick : Pick) → Numbers (IsSubscripts s at) at.operands (length at.operands) b c → NumbersPlain (plain.Value r pick s) (named.Value R pick at) a c
  unfolding plain_of
  plain-Value pick y = becomes (both x y) refl (omega arith) (λ t p. record { fits = (p.0.fits, p.1.fits); reads = λ i. named.Value (p.0.reads i) pick (p.1.reads i) })

  pub plain-Constant : {z' z : ℤ} (ty : Scalar) → z' ≡ z → NumbersPlain (plain.Constant r z' ty) (named.Constant R z ty) a b
  unfolding plain_of
  plain-Constant ty e = becomes x refl refl (λ t p. record { fits = p.fits; reads = λ i. named.Constant (p.reads i) (e i) ty })

  pub plain-Alloc : {ty' ty : MemrefType} → ty' ≡ ty → NumbersPlain (plain.Alloc r ty') (named.Alloc R ty) a b
  unfolding plain_of
  plain-Alloc e = becomes x refl refl (λ t p. record { fits = p.fits; reads = λ i. named.Alloc (p.reads i) (e i) })

  pub plain-Dealloc : {ty' ty : MemrefType} → ty' ≡ ty → NumbersPlain (plain.Dealloc r ty') (named.Dealloc R ty) a b
  unfolding plain_of
  plain-Dealloc e = becomes x refl refl (λ t p. record { fits = p.fits; reads = λ i. named.Dealloc (p.reads i) (e i) })

  module _ {m : ℕ} {M : Name} {c : Table} (y : Numbers (IsNumber m M) (M ∷ []) 0 b c) where
    pub plain-Cast : (kind : CastKind) (from to : Scalar) → NumbersPlain (plain.Cast r kind m from to) (named.Cast R kind M from to) a c
    unfolding plain_of
    plain-Cast kind from to = becomes (both x y) refl (omega arith) (λ t p. record { fits = (p.0.fits, p.1.fits); reads = λ i. named.Cast (p.0.reads i) kind (p.1.reads i) from to })

    pub plain-Binary : {n : ℕ} {N : Name} {d : Table} (op : Op) (ty : Scalar) → Numbers (IsNumber n N) (N ∷ []) 0 c d → NumbersPlain (plain.Binary r op m n ty) (named.Binary R op M N ty) a d
    unfolding plain_of
    plain-Binary op ty z = becomes (both x (both y z)) refl (omega arith) (λ t p. record { fits = (p.0.fits, p.1.0.fits, p.1.1.fits); reads = λ i. named.Binary (p.0.reads i) op (p.1.0.reads i) (p.1.1.reads i) ty })

    module _ {s : Subscripts} {at : Access} {d : Table} {ty' ty : MemrefType} (z : Numbers (IsSubscripts s at) at.operands (length at.operands) c d) (e : ty' ≡ ty) where
      pub plain-Load : NumbersPlain (plain.Load r m s ty') (named.Load R M at ty) a d
      unfolding plain_of
      plain-Load = becomes (both x (both y z)) refl (omega arith) (λ t p. record { fits = (p.0.fits, p.1.0.fits, p.1.1.fits); reads = λ i. named.Load (p.0.reads i) (p.1.0.reads i) (p.1.1.reads i) (e i) })

      pub plain-Store : NumbersPlain (plain.Store r m s ty') (named.Store R M at ty) a d
      unfolding plain_of
      plain-Store = becomes (both x (both y z)) refl (omega arith) (λ t p. record { fits = (p.0.fits, p.1.0.fits, p.1.1.fits); reads = λ i. named.Store (p.0.reads i) (p.1.0.reads i) (p.1.1.reads i) (e i) })

    module _ {ks : List ℕ} {ns : List Name} {d : Table} {ty' ty : MemrefType} (z : Numbers (AreOperands ks ns) ns (length ns) c d) (e : ty' ≡ ty) where
      pub plain-RawLoad : NumbersPlain (plain.RawLoad r m ks ty') (named.RawLoad R M ns ty) a d
      unfolding plain_of
      plain-RawLoad = becomes (both x (both y z)) refl (omega arith) (λ t p. record { fits = (p.0.fits, p.1.0.fits, p.1.1.fits); reads = λ i. named.RawLoad (p.0.reads i) (p.1.0.reads i) (p.1.1.reads i) (e i) })

      pub plain-RawStore : NumbersPlain (plain.RawStore r m ks ty') (named.RawStore R M ns ty) a d
      unfolding plain_of
      plain-RawStore = becomes (both x (both y z)) refl (omega arith) (λ t p. record { fits = (p.0.fits, p.1.0.fits, p.1.1.fits); reads = λ i. named.RawStore (p.0.reads i) (p.1.0.reads i) (p.1.1.reads i) (e i) })

  -- a name with its subscripts, and a wait's count
  pub plain-Wait : {s : Subscripts} {at : Access} {n : ℕ} {N : Name} {c d : Table} {ty' ty : MemrefType} → Numbers (IsSubscripts s at) at.operands (length at.operands) b c → Numbers (IsNumber n N) (N ∷ []) 0 c d → ty' ≡ ty → NumbersPlain (plain.Wait r s n ty') (named.Wait R at N ty) a d
  unfolding plain_of
  plain-Wait y z e = becomes (both x (both y z)) refl (omega arith) (λ t p. record { fits = (p.0.fits, p.1.0.fits, p.1.1.fits); reads = λ i. named.Wait (p.0.reads i) (p.1.0.reads i) (p.1.1.reads i) (e i) })

pub plain-Start : {a b c d e f g h o : Table} {x y t n : ℕ} {X Y T N : Name} {xs ys ts : Subscripts} {XS YS TS : Access} {stride : Option (ℕ × ℕ)} {STRIDE : Option (Name × Name)} {types TYPES : List MemrefType} → {us : List Name}
    → Numbers (IsNumber x X) (X ∷ []) 0 a b → Numbers (IsSubscripts xs XS) XS.operands (length XS.operands) b c
    → Numbers (IsNumber y Y) (Y ∷ []) 0 c d → Numbers (IsSubscripts ys YS) YS.operands (length YS.operands) d e
    → Numbers (IsNumber t T) (T ∷ []) 0 e f → Numbers (IsSubscripts ts TS) TS.operands (length TS.operands) f g
    → Numbers (IsNumber n N) (N ∷ []) 0 g h → Numbers (IsStride stride STRIDE) us 0 h o → types ≡ TYPES
    → Numbers (IsPlain (plain.Start x xs y ys t ts n stride types) (named.Start X XS Y YS T TS N STRIDE TYPES)) (X ∷ XS.operands ++ (Y ∷ YS.operands ++ (T ∷ TS.operands ++ (N ∷ us)))) (max (length XS.operands) (max (length YS.operands) (length TS.operands))) a o
unfolding plain_of
plain-Start x xs y ys t ts n s e = becomes (both x (both xs (both y (both ys (both t (both ts (both n s))))))) refl (omega arith) (λ u p. record {
  fits = (p.0.fits, p.1.0.fits, p.1.1.0.fits, p.1.1.1.0.fits, p.1.1.1.1.0.fits, p.1.1.1.1.1.0.fits, p.1.1.1.1.1.1.0.fits, p.1.1.1.1.1.1.1.fits);
  reads = λ i. named.Start (p.0.reads i) (p.1.0.reads i) (p.1.1.0.reads i) (p.1.1.1.0.reads i) (p.1.1.1.1.0.reads i) (p.1.1.1.1.1.0.reads i) (p.1.1.1.1.1.1.0.reads i) (p.1.1.1.1.1.1.1.reads i) (e i);
})

pub plain-Return : (a : Table) → NumbersPlain plain.Return named.Return a a
unfolding plain_of
plain-Return a = nothing a (λ t. record { fits = tt; reads = refl })
