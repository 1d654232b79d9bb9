-- The first key of a query.
use Rattle.std.proofs.Common.{◌≡◌, ℕ, ◌<◌, ◌≤◌, ◌⊎◌, inl, inr, refl, sym, ◌∙◌, subst, arith}
use Rattle.std.proofs.lemmas.Bool.{cases_lt}
use Rattle.st_key.specs.declared.period.Period.{Period}
use Rattle.st_key.specs.declared.key.Key.{Key}
use Rattle.st_key.specs.Key.{IsBefore}
use Rattle.st_box.specs.declared.query.Query.{Query}
use Rattle.st_box.specs.declared.zbox.ZBox.{ZBox}
use Rattle.st_box.specs.ZBox.{IsInside}
use Rattle.st_box.specs.Query.{HasKey}
use Rattle.st_box.specs.inner.Bins.{IsBoxIn}
use Rattle.st_bigmin.specs.inner.First.{IsFirstIn, IsFirstFrom, IsAtOrAfter}
use Rattle.st_bigmin.specs.inner.Jump.{IsLeastAbove}

pub first_in : (q : Query) (w : Period) (bin : ℕ) (b : ZBox) (k : Key) → IsBoxIn q w bin b → k.bin ≡ bin → IsInside b k.address
    → ((a : ℕ) → IsInside b a → k.address ≤ a) → IsFirstIn q w bin k
first_in q w bin b k box here inside least = record {
  in_bin = here;
  inside = (box k here).0 inside;
  first = λ l has there. least l.address ((box l there).1 has);
}

-- the first key in a bin, where those of the bins before come before the given key
pub first_of_next : (q : Query) (w : Period) (bin : ℕ) (from k : Key) → IsFirstIn q w bin k → from.bin < bin
    → ((l : Key) → HasKey q w l → IsAtOrAfter l from → bin ≤ l.bin) → IsFirstFrom q w from k
first_of_next q w bin from k f after none = record {
  from_there = inl (omega (arith, f.in_bin));
  inside = f.inside;
  first = λ l has later. elim (cases_lt bin l.bin) [
    | inl beyond ↦ inl (omega (arith, f.in_bin))
    | inr at ↦ let here : l.bin ≡ bin = omega (arith, none l has later) in inr (omega (arith, f.in_bin), f.first l has here)
  ];
}

pub itself : (q : Query) (w : Period) (from : Key) → HasKey q w from → IsFirstFrom q w from from
itself q w from inside = record {
  from_there = inr (refl, omega arith);
  inside = inside;
  first = λ l has later. later;
}

pub next_in_bin : (q : Query) (w : Period) (b : ZBox) (from k : Key) → IsBoxIn q w from.bin b → ¬ HasKey q w from → k.bin ≡ from.bin
    → IsLeastAbove b from.address k.address → IsFirstFrom q w from k
next_in_bin q w b from k box out here next = record {
  from_there = inr (sym here, omega (arith, next.above));
  inside = (box k here).0 next.inside;
  first = λ l has later. elim later [
    | inl beyond ↦ inl (omega arith)
    | inr at ↦
        let in_box = (box l (sym at.0)).1 has in
        elim (cases_lt from.address l.address) [
          | inl above ↦ inr (here ∙ at.0, next.least l.address in_box above)
          | inr not_above ↦
              let same : l.address ≡ from.address = omega (arith, at.1) in
              absurd (out ((box from refl).0 (subst (IsInside b) same in_box)))
        ]
  ];
}

-- where the bin has no later key
pub past_bin : (q : Query) (w : Period) (b : ZBox) (from : Key) → IsBoxIn q w from.bin b → ¬ HasKey q w from
    → ((a : ℕ) → IsInside b a → a ≤ from.address) → (l : Key) → HasKey q w l → IsBefore l from ⊎ (from.bin < l.bin)
past_bin q w b from box out none l has =
    elim (cases_lt from.bin l.bin) [
      | inl beyond ↦ inr beyond
      | inr not_beyond ↦ elim (cases_lt l.bin from.bin) [
        | inl before ↦ inl (inl before)
        | inr not_before ↦
            let here : l.bin ≡ from.bin = omega arith in
            let in_box = (box l here).1 has in
            elim (cases_lt l.address from.address) [
              | inl below ↦ inl (inr (here, below))
              | inr not_below ↦
                  let same : l.address ≡ from.address = omega (arith, none l.address in_box) in
                  absurd (out ((box from refl).0 (subst (IsInside b) same in_box)))
            ]
      ]
    ]

pub before_absurd : (l from : Key) → IsBefore l from → IsAtOrAfter l from → ⊥
before_absurd l from before later =
    elim before [
      | inl b ↦ elim later [ inl c ↦ omega arith | inr c ↦ let e = c.0 in omega arith ]
      | inr b ↦ let e = b.0 in let f = b.1 in elim later [ inl c ↦ omega arith | inr c ↦ let g = c.1 in omega arith ]
    ]
