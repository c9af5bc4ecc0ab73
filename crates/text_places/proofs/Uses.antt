-- What one statement adds.
use Rattle.std.proofs.Common.{◌≡◌, Bool, true, false, cond, List, [], ◌∷◌, ◌++◌, map, Option, refl, sym, ap, ◌∙◌, append_assoc, append-nil}
use Rattle.std.specs.Prelude.{IsTrue, ◌↔◌}
use Rattle.affine_ast.specs.declared.name.Name.{Name}
use Rattle.affine_ast.specs.declared.types.Access.{Access}
use Rattle.affine_ast.specs.declared.types.MemrefType.{MemrefType}
use Rattle.affine_ast.specs.declared.stmt.Stmt.{Stmt}
use Rattle.affine_ast.specs.declared.stmt.What as what
use Rattle.affine_ast.specs.declared.stmt.What.{What}
use Rattle.affine_ast.specs.declared.stmt.What.TheOpen.{What-F}
use Rattle.affine_ast.specs.declared.stmt.What.TheVariants.{rolls-Load, rolls-Store, rolls-RawLoad, rolls-RawStore, rolls-Dealloc, rolls-Start, rolls-Wait}
use Rattle.affine_ast.specs.Names.{same_name}
use Rattle.affine_ast.specs.Nest.{Nothing, head_plain, plain_of, put_what}
use Rattle.affine_ast.proofs.Names.{same_name-eq, same_name-is}
use Rattle.affine_ast.proofs.Nests.{put_what_is}
use Rattle.nest_domain.specs.Ways.{Header, Use, Affine, Other, if_named, use_of}
use Rattle.text_places.specs.declared.plain.FoundUse.{FoundUse}
use Rattle.text_places.specs.declared.plain.FoundUse.TheVariants as found
use Rattle.text_places.specs.Finding.{seen}
use Rattle.text_places.proofs.Lists.{map-append}

pub is_same : (b : Bool) (x y : Name) → IsTrue b ↔ (x ≡ y) → b ≡ same_name x y
is_same true x y h = sym (same_name-is x y (h.0 refl))
is_same false x y h = by (same_name x y) refl
  where
    by : (c : Bool) → same_name x y ≡ c → false ≡ c
    by true e = h.1 (same_name-eq x y e)
    by false e = refl

pub nothing_added : (out : List FoundUse) (m n : Name) (x : Use) → same_name m n ≡ false → map seen out ≡ map seen out ++ if_named m n x
nothing_added out m n x e = sym (append-nil (map seen out)) ∙ ap (λ b. map seen out ++ cond b (x ∷ []) []) (sym e)

one_added : (out : List FoundUse) (m n : Name) (f : FoundUse) (x : Use) → same_name m n ≡ true → seen f ≡ x → map seen (out ++ f ∷ []) ≡ map seen out ++ if_named m n x
one_added out m n f x e s = map-append seen out (f ∷ []) ∙ ap (λ u. map seen out ++ u ∷ []) s ∙ ap (λ b. map seen out ++ cond b (x ∷ []) []) (sym e)

pub affine_added : (out new : List FoundUse) (m n : Name) (f : FoundUse) (way : List Header) (stores : Bool) (at : Access) → same_name m n ≡ true → new ≡ out ++ f ∷ [] → seen f ≡ Affine way stores at
    → map seen new ≡ map seen out ++ if_named m n (Affine way stores at)
affine_added out new m n f way stores at e p s = ap (map seen) p ∙ one_added out m n f (Affine way stores at) e s

pub other_added : (out new : List FoundUse) (m n : Name) → same_name m n ≡ true → new ≡ out ++ found.Other ∷ [] → map seen new ≡ map seen out ++ if_named m n Other
other_added out new m n e p = ap (map seen) p ∙ one_added out m n found.Other Other e refl

pub three_added : (a b c d x y z : List Use) → b ≡ a ++ x → c ≡ b ++ y → d ≡ c ++ z → d ≡ a ++ (x ++ (y ++ z))
three_added a b c d x y z p q r = r ∙ ap (λ l. l ++ z) (q ∙ ap (λ l. l ++ y) p) ∙ append_assoc (a ++ x) y z ∙ append_assoc a x (y ++ z)

-- every other statement adds nothing
pub nothing_else : (w : What) (m : Name) (way : List Header)
    → ((r n : Name) (at : Access) (ty : MemrefType) → w ≡ what.Load r n at ty → ⊥)
    → ((x n : Name) (at : Access) (ty : MemrefType) → w ≡ what.Store x n at ty → ⊥)
    → ((r n : Name) (at : List Name) (ty : MemrefType) → w ≡ what.RawLoad r n at ty → ⊥)
    → ((x n : Name) (at : List Name) (ty : MemrefType) → w ≡ what.RawStore x n at ty → ⊥)
    → ((n : Name) (ty : MemrefType) → w ≡ what.Dealloc n ty → ⊥)
    → ((a : Name) (aa : Access) (b : Name) (bb : Access) (t : Name) (ta : Access) (n : Name) (stride : Option (Name × Name)) (types : List MemrefType) → w ≡ what.Start a aa b bb t ta n stride types → ⊥)
    → ((t : Name) (at : Access) (n : Name) (ty : MemrefType) → w ≡ what.Wait t at n ty → ⊥)
    → use_of m (plain_of w) way ≡ []
unfolding plain_of
nothing_else w m way load store raw_load raw_store dealloc start wait = by (what.out-What w) (what.roll-out-What w)
  where
    by : (x : What-F What Stmt) → what.roll-What x ≡ w → use_of m (head_plain (put_what w 0 Nothing)) way ≡ []
    by (What-F.Load r n at ty) e = absurd (load r n at ty (sym e ∙ rolls-Load r n at ty))
    by (What-F.Store x n at ty) e = absurd (store x n at ty (sym e ∙ rolls-Store x n at ty))
    by (What-F.RawLoad r n at ty) e = absurd (raw_load r n at ty (sym e ∙ rolls-RawLoad r n at ty))
    by (What-F.RawStore x n at ty) e = absurd (raw_store x n at ty (sym e ∙ rolls-RawStore x n at ty))
    by (What-F.Dealloc n ty) e = absurd (dealloc n ty (sym e ∙ rolls-Dealloc n ty))
    by (What-F.Start a aa b bb t ta n stride types) e = absurd (start a aa b bb t ta n stride types (sym e ∙ rolls-Start a aa b bb t ta n stride types))
    by (What-F.Wait t at n ty) e = absurd (wait t at n ty (sym e ∙ rolls-Wait t at n ty))
    by x e = ap (λ n. use_of m (head_plain n) way) (put_what_is 0 Nothing x w e)

pub nothing_else_added : (w : What) (m : Name) (way : List Header) (out : List FoundUse)
    → ((r n : Name) (at : Access) (ty : MemrefType) → w ≡ what.Load r n at ty → ⊥)
    → ((x n : Name) (at : Access) (ty : MemrefType) → w ≡ what.Store x n at ty → ⊥)
    → ((r n : Name) (at : List Name) (ty : MemrefType) → w ≡ what.RawLoad r n at ty → ⊥)
    → ((x n : Name) (at : List Name) (ty : MemrefType) → w ≡ what.RawStore x n at ty → ⊥)
    → ((n : Name) (ty : MemrefType) → w ≡ what.Dealloc n ty → ⊥)
    → ((a : Name) (aa : Access) (b : Name) (bb : Access) (t : Name) (ta : Access) (n : Name) (stride : Option (Name × Name)) (types : List MemrefType) → w ≡ what.Start a aa b bb t ta n stride types → ⊥)
    → ((t : Name) (at : Access) (n : Name) (ty : MemrefType) → w ≡ what.Wait t at n ty → ⊥)
    → map seen out ≡ map seen out ++ use_of m (plain_of w) way
nothing_else_added w m way out load store raw_load raw_store dealloc start wait =
    sym (append-nil (map seen out)) ∙ ap (λ l. map seen out ++ l) (sym (nothing_else w m way load store raw_load raw_store dealloc start wait))
