-- Lists of outstanding transfers that are the old run's, under new numbers, mixed with the new run's own.
use Rattle.std.proofs.Common.{◌≡◌, inl, inr, ℕ, List, [], ◌∷◌, ◌++◌, refl, sym, ap, ◌∙◌, subst, Bool, true, false}
use Rattle.std.specs.Prelude.{◌||◌, Some, nat_eq, if◌then◌else◌}
use Rattle.std.specs.List.{list_any}
use Rattle.bus_model.specs.declared.transfer.Transfer.{Transfer}
use Rattle.prompt_semantics.specs.Device.{is_started, record_of, without}
use Rattle.box_run_laws.specs.Layouts.{Mixed}

or_none : (a b : Bool) → (a || b) ≡ false → (a ≡ false) × (b ≡ false)
or_none true b h = let k : true ≡ false = h in absurd (cc)
or_none false b h = (refl, h)

-- a test that none of the new run's own meets
pub any_own : (p : Transfer → Bool) (xs es zs : List Transfer) → Mixed xs es zs → list_any p es ≡ false → list_any p zs ≡ list_any p xs
any_own p xs es [] m h = ap (list_any p) (sym m.0)
any_own p xs es (z ∷ zs) (inl m) h = ap (λ b. p z || b) (any_own p m.0 es zs m.2 h) ∙ ap (list_any p) (sym m.1)
any_own p xs es (z ∷ zs) (inr m) h =
    let two = or_none (p z) (list_any p m.0) (sym (ap (list_any p) m.1) ∙ h) in
    ap (λ b. b || list_any p zs) two.0 ∙ any_own p xs m.0 zs m.2 two.1

-- the record of a tag that is none of the new run's own
pub record_own : (tag : ℕ) (xs es zs : List Transfer) → Mixed xs es zs → is_started es tag ≡ false → record_of tag zs ≡ record_of tag xs
record_own tag xs es [] m h = ap (record_of tag) (sym m.0)
record_own tag xs es (z ∷ zs) (inl m) h = ap (λ o. if nat_eq z.tag tag then Some z else o) (record_own tag m.0 es zs m.2 h) ∙ ap (record_of tag) (sym m.1)
record_own tag xs es (z ∷ zs) (inr m) h =
    let two = or_none (nat_eq z.tag tag) (is_started m.0 tag) (sym (ap (λ ts. is_started ts tag) m.1) ∙ h) in
    ap (λ b. if b then Some z else record_of tag zs) two.0 ∙ record_own tag xs m.0 zs m.2 two.1

pub without_own : (tag : ℕ) (xs es zs : List Transfer) → Mixed xs es zs → is_started es tag ≡ false → Mixed (without tag xs) es (without tag zs)
without_own tag xs es [] m h = (ap (without tag) m.0, m.1)
without_own tag xs es (z ∷ zs) (inl m) h = by (nat_eq z.tag tag) refl (without_own tag m.0 es zs m.2 h)
  where
    by : (b : Bool) → nat_eq z.tag tag ≡ b → Mixed (without tag m.0) es (without tag zs) → Mixed (without tag xs) es (if b then zs else z ∷ without tag zs)
    by true e k = subst (λ l. Mixed l es zs) (sym (ap (without tag) m.1 ∙ ap (λ b. if b then m.0 else z ∷ without tag m.0) e)) m.2
    by false e k = inl (without tag m.0, ap (without tag) m.1 ∙ ap (λ b. if b then m.0 else z ∷ without tag m.0) e, k)
without_own tag xs es (z ∷ zs) (inr m) h =
    let two = or_none (nat_eq z.tag tag) (is_started m.0 tag) (sym (ap (λ ts. is_started ts tag) m.1) ∙ h) in
    subst (Mixed (without tag xs) es) (sym (ap (λ b. if b then zs else z ∷ without tag zs) two.0))
    (inr (m.0, m.1, without_own tag xs m.0 zs m.2 two.1))

-- one more behind
pub mixed_more : (t : Transfer) (xs es zs : List Transfer) → Mixed xs es zs → Mixed (xs ++ t ∷ []) es (zs ++ t ∷ [])
mixed_more t xs es [] m = inl ([], ap (λ l. l ++ t ∷ []) m.0, (refl, m.1))
mixed_more t xs es (z ∷ zs) (inl m) = inl (m.0 ++ t ∷ [], ap (λ l. l ++ t ∷ []) m.1, mixed_more t m.0 es zs m.2)
mixed_more t xs es (z ∷ zs) (inr m) = inr (m.0, m.1, mixed_more t xs m.0 zs m.2)

-- none of the new run's own
pub mixed_alone : (xs zs : List Transfer) → Mixed xs [] zs → zs ≡ xs
mixed_alone xs [] m = sym m.0
mixed_alone xs (z ∷ zs) (inl m) = ap (λ l. z ∷ l) (mixed_alone m.0 zs m.2) ∙ sym m.1
mixed_alone xs (z ∷ zs) (inr m) = let e : [] ≡ z ∷ m.0 = m.1 in absurd (cc)

pub mixed_itself : (xs : List Transfer) → Mixed xs [] xs
mixed_itself [] = (refl, refl)
mixed_itself (x ∷ xs) = inl (xs, refl, mixed_itself xs)

-- the new run's own are as much a part as the old run's
pub mixed_swap : (xs es zs : List Transfer) → Mixed xs es zs → Mixed es xs zs
mixed_swap xs es [] m = (m.1, m.0)
mixed_swap xs es (z ∷ zs) (inl m) = inr (m.0, m.1, mixed_swap m.0 es zs m.2)
mixed_swap xs es (z ∷ zs) (inr m) = inl (m.0, m.1, mixed_swap xs m.0 zs m.2)

pub any_mixed : (p : Transfer → Bool) (xs es zs : List Transfer) → Mixed xs es zs → list_any p xs ≡ false → list_any p es ≡ false → list_any p zs ≡ false
any_mixed p xs es zs m h k = any_own p xs es zs m k ∙ h

pub record_extra : (tag : ℕ) (xs es zs : List Transfer) → Mixed xs es zs → is_started xs tag ≡ false → record_of tag zs ≡ record_of tag es
record_extra tag xs es zs m h = record_own tag es xs zs (mixed_swap xs es zs m) h

pub without_extra : (tag : ℕ) (xs es zs : List Transfer) → Mixed xs es zs → is_started xs tag ≡ false → Mixed xs (without tag es) (without tag zs)
without_extra tag xs es zs m h = mixed_swap (without tag es) xs (without tag zs) (without_own tag es xs zs (mixed_swap xs es zs m) h)

pub mixed_extra : (t : Transfer) (xs es zs : List Transfer) → Mixed xs es zs → Mixed xs (es ++ t ∷ []) (zs ++ t ∷ [])
mixed_extra t xs es zs m = mixed_swap (es ++ t ∷ []) xs (zs ++ t ∷ []) (mixed_more t es xs zs (mixed_swap xs es zs m))
