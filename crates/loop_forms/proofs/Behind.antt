-- An expression behind other leaves, one equation for each kind.
use Rattle.std.proofs.Common.{◌≡◌, ℕ, ◌+◌, ℤ, sym, ap, ◌∙◌}
use Rattle.affine_expr.specs.declared.expr.Expr.{Expr, Dim, Sym, Const, Neg, Add, Sub, Mul, FloorDiv, CeilDiv, Mod, fold-Expr, fold-roll-Expr, roll-Expr}
use Rattle.affine_expr.specs.declared.expr.Expr.TheVariants.{rolls-Dim, rolls-Sym, rolls-Const, rolls-Neg, rolls-Add, rolls-Sub, rolls-Mul, rolls-FloorDiv, rolls-CeilDiv, rolls-Mod}
use Rattle.affine_expr.specs.declared.expr.Expr.TheOpen.{Expr-F}
use Rattle.loop_forms.specs.Split.{leaf_behind, behind}

module _ (d s : ℕ) where
  abbrev moved : Expr-F Expr → Expr
  moved x = roll-Expr (leaf_behind d s x)

  pub behind-Dim : (n : ℕ) → behind d s (Dim n) ≡ Dim (d + n)
  unfolding behind
  behind-Dim n = ap (fold-Expr Expr moved) (sym (rolls-Dim n)) ∙ fold-roll-Expr Expr moved (Expr-F.Dim n) ∙ rolls-Dim (d + n)

  pub behind-Sym : (n : ℕ) → behind d s (Sym n) ≡ Sym (s + n)
  unfolding behind
  behind-Sym n = ap (fold-Expr Expr moved) (sym (rolls-Sym n)) ∙ fold-roll-Expr Expr moved (Expr-F.Sym n) ∙ rolls-Sym (s + n)

  pub behind-Const : (z : ℤ) → behind d s (Const z) ≡ Const z
  unfolding behind
  behind-Const z = ap (fold-Expr Expr moved) (sym (rolls-Const z)) ∙ fold-roll-Expr Expr moved (Expr-F.Const z) ∙ rolls-Const z

  pub behind-Neg : (a : Expr) → behind d s (Neg a) ≡ Neg (behind d s a)
  unfolding behind
  behind-Neg a = ap (fold-Expr Expr moved) (sym (rolls-Neg a)) ∙ fold-roll-Expr Expr moved (Expr-F.Neg a) ∙ rolls-Neg (behind d s a)

  pub behind-Add : (a b : Expr) → behind d s (Add a b) ≡ Add (behind d s a) (behind d s b)
  unfolding behind
  behind-Add a b = ap (fold-Expr Expr moved) (sym (rolls-Add a b)) ∙ fold-roll-Expr Expr moved (Expr-F.Add a b) ∙ rolls-Add (behind d s a) (behind d s b)

  pub behind-Sub : (a b : Expr) → behind d s (Sub a b) ≡ Sub (behind d s a) (behind d s b)
  unfolding behind
  behind-Sub a b = ap (fold-Expr Expr moved) (sym (rolls-Sub a b)) ∙ fold-roll-Expr Expr moved (Expr-F.Sub a b) ∙ rolls-Sub (behind d s a) (behind d s b)

  pub behind-Mul : (a b : Expr) → behind d s (Mul a b) ≡ Mul (behind d s a) (behind d s b)
  unfolding behind
  behind-Mul a b = ap (fold-Expr Expr moved) (sym (rolls-Mul a b)) ∙ fold-roll-Expr Expr moved (Expr-F.Mul a b) ∙ rolls-Mul (behind d s a) (behind d s b)

  pub behind-FloorDiv : (a b : Expr) → behind d s (FloorDiv a b) ≡ FloorDiv (behind d s a) (behind d s b)
  unfolding behind
  behind-FloorDiv a b = ap (fold-Expr Expr moved) (sym (rolls-FloorDiv a b)) ∙ fold-roll-Expr Expr moved (Expr-F.FloorDiv a b) ∙ rolls-FloorDiv (behind d s a) (behind d s b)

  pub behind-CeilDiv : (a b : Expr) → behind d s (CeilDiv a b) ≡ CeilDiv (behind d s a) (behind d s b)
  unfolding behind
  behind-CeilDiv a b = ap (fold-Expr Expr moved) (sym (rolls-CeilDiv a b)) ∙ fold-roll-Expr Expr moved (Expr-F.CeilDiv a b) ∙ rolls-CeilDiv (behind d s a) (behind d s b)

  pub behind-Mod : (a b : Expr) → behind d s (Mod a b) ≡ Mod (behind d s a) (behind d s b)
  unfolding behind
  behind-Mod a b = ap (fold-Expr Expr moved) (sym (rolls-Mod a b)) ∙ fold-roll-Expr Expr moved (Expr-F.Mod a b) ∙ rolls-Mod (behind d s a) (behind d s b)

  -- what is made of the parts behind is the whole behind
  pub moved-Dim : (e : Expr) (n k : ℕ) → e ≡ Dim n → k ≡ d + n → Dim k ≡ behind d s e
  moved-Dim e n k h g = ap Dim g ∙ sym (ap (behind d s) h ∙ behind-Dim n)

  pub moved-Sym : (e : Expr) (n k : ℕ) → e ≡ Sym n → k ≡ s + n → Sym k ≡ behind d s e
  moved-Sym e n k h g = ap Sym g ∙ sym (ap (behind d s) h ∙ behind-Sym n)

  pub moved-Const : (e f : Expr) (z : ℤ) → e ≡ Const z → f ≡ e → f ≡ behind d s e
  moved-Const e f z h g = g ∙ h ∙ sym (ap (behind d s) h ∙ behind-Const z)

  pub moved-Neg : (e a p b : Expr) → e ≡ Neg a → p ≡ a → b ≡ behind d s p → Neg b ≡ behind d s e
  moved-Neg e a p b h g k = ap Neg (k ∙ ap (behind d s) g) ∙ sym (ap (behind d s) h ∙ behind-Neg a)

  pub moved-Add : (e a b p q x y : Expr) → e ≡ Add a b → p ≡ a → q ≡ b → x ≡ behind d s p → y ≡ behind d s q → Add x y ≡ behind d s e
  moved-Add e a b p q x y h f g k l = (λ i. Add ((k ∙ ap (behind d s) f) i) ((l ∙ ap (behind d s) g) i)) ∙ sym (ap (behind d s) h ∙ behind-Add a b)

  pub moved-Sub : (e a b p q x y : Expr) → e ≡ Sub a b → p ≡ a → q ≡ b → x ≡ behind d s p → y ≡ behind d s q → Sub x y ≡ behind d s e
  moved-Sub e a b p q x y h f g k l = (λ i. Sub ((k ∙ ap (behind d s) f) i) ((l ∙ ap (behind d s) g) i)) ∙ sym (ap (behind d s) h ∙ behind-Sub a b)

  pub moved-Mul : (e a b p q x y : Expr) → e ≡ Mul a b → p ≡ a → q ≡ b → x ≡ behind d s p → y ≡ behind d s q → Mul x y ≡ behind d s e
  moved-Mul e a b p q x y h f g k l = (λ i. Mul ((k ∙ ap (behind d s) f) i) ((l ∙ ap (behind d s) g) i)) ∙ sym (ap (behind d s) h ∙ behind-Mul a b)

  pub moved-FloorDiv : (e a b p q x y : Expr) → e ≡ FloorDiv a b → p ≡ a → q ≡ b → x ≡ behind d s p → y ≡ behind d s q → FloorDiv x y ≡ behind d s e
  moved-FloorDiv e a b p q x y h f g k l = (λ i. FloorDiv ((k ∙ ap (behind d s) f) i) ((l ∙ ap (behind d s) g) i)) ∙ sym (ap (behind d s) h ∙ behind-FloorDiv a b)

  pub moved-CeilDiv : (e a b p q x y : Expr) → e ≡ CeilDiv a b → p ≡ a → q ≡ b → x ≡ behind d s p → y ≡ behind d s q → CeilDiv x y ≡ behind d s e
  moved-CeilDiv e a b p q x y h f g k l = (λ i. CeilDiv ((k ∙ ap (behind d s) f) i) ((l ∙ ap (behind d s) g) i)) ∙ sym (ap (behind d s) h ∙ behind-CeilDiv a b)

  pub moved-Mod : (e a b p q x y : Expr) → e ≡ Mod a b → p ≡ a → q ≡ b → x ≡ behind d s p → y ≡ behind d s q → Mod x y ≡ behind d s e
  moved-Mod e a b p q x y h f g k l = (λ i. Mod ((k ∙ ap (behind d s) f) i) ((l ∙ ap (behind d s) g) i)) ∙ sym (ap (behind d s) h ∙ behind-Mod a b)
