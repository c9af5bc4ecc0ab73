-- Points that end in the floors of locals.
use Rattle.std.proofs.Common.{◌≡◌, ℕ, suc, ◌+◌, ◌≤◌, List, [], ◌∷◌, ◌++◌, length, ℤ, pos, ◌+ℤ◌, ◌<ℤ◌, refl, sym, ◌∙◌, ap, arith, append_assoc, append-nil, length-append}
use Rattle.affine_expr.specs.Value.{floor_div}
use Rattle.affine_expr.specs.Forms.{Form, LocalForm, form_value, with_locals, AreInOrder}
use Rattle.affine_expr.proofs.FormValues.{worth, dot-longer}

-- the floor that a local is at a point
abbrev pub floor_at : LocalForm → List ℤ → ℤ
floor_at l p = floor_div (form_value l.coefs l.constant p) l.divisor

pub with_locals-append : (p : List ℤ) (ls ms : List LocalForm) → with_locals p (ls ++ ms) ≡ with_locals (with_locals p ls) ms
with_locals-append p [] ms = refl
with_locals-append p (l ∷ ls) ms = with_locals-append (p ++ floor_at l p ∷ []) ls ms

-- the locals only make the point longer
grows : (p : List ℤ) (ls : List LocalForm) → (more : List ℤ) × (with_locals p ls ≡ p ++ more)
grows p [] = ([], sym (append-nil p))
grows p (l ∷ ls) =
    let w = grows (p ++ floor_at l p ∷ []) ls in
    (floor_at l p ∷ w.0, w.1 ∙ append_assoc p (floor_at l p ∷ []) w.0)

pub worth_longer : (f : Form) (p : List ℤ) (ls : List LocalForm) → length f.coefs ≤ length p → worth f (with_locals p ls) ≡ worth f p
worth_longer f p ls h = let w = grows p ls in ap (worth f) w.1 ∙ ap (λ z. z +ℤ f.constant) (dot-longer f.coefs p w.0 h)

pub length-with_locals : (p : List ℤ) (ls : List LocalForm) → length (with_locals p ls) ≡ length p + length ls
length-with_locals p [] = omega arith
length-with_locals p (l ∷ ls) = omega (arith, length-with_locals (p ++ floor_at l p ∷ []) ls, length-append p (floor_at l p ∷ []))

-- a later local keeps what an earlier form is worth
pub kept : (p : List ℤ) (f : Form) (ls ms more : List LocalForm) → ms ≡ ls ++ more → length f.coefs ≤ length p + length ls → worth f (with_locals p ms) ≡ worth f (with_locals p ls)
kept p f ls ms more e h =
    ap (λ l. worth f (with_locals p l)) e ∙ ap (worth f) (with_locals-append p ls more) ∙ worth_longer f (with_locals p ls) more (omega (arith, length-with_locals p ls))

pub in_order-last : (n : ℕ) (ls : List LocalForm) (l : LocalForm) → AreInOrder n ls → length l.coefs ≡ n + length ls → pos 0 <ℤ l.divisor → AreInOrder n (ls ++ l ∷ [])
in_order-last n [] l h e k = (omega (arith, e), k, tt)
in_order-last n (m ∷ ls) l h e k = (h.0, h.1, in_order-last (suc n) ls l h.2 (omega arith) k)
