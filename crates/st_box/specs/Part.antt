-- The parts of a query, bin by bin.
use Rattle.std.specs.Prelude.{ℕ, ◌+◌, ◌-◌, ◌/◌, ◌%◌, List, [], ◌∷◌, ◌++◌, if◌then◌else◌, nat_eq, nat_lt}
use Rattle.st_key.specs.declared.period.Period.{Period}
use Rattle.st_key.specs.Period.{seconds_of}
use Rattle.st_key.specs.Order.{Spot}
use Rattle.st_box.specs.declared.part.Part.{Part}
use Rattle.st_box.specs.declared.query.Query.{Query}
use Rattle.st_box.specs.ZBox.{first_of, last_of}

-- a part by its numbers: bins, and in each of them the box between two places
pub record Cut : Type 0 where
  pub bin_lo : ℕ
  pub bin_hi : ℕ
  pub first : Spot
  pub last : Spot

abbrev pub cut_of : Part → Cut
cut_of p = record { bin_lo = p.bin_lo; bin_hi = p.bin_hi; first = first_of p.zbox; last = last_of p.zbox }

-- the query's x and y in these bins, from one offset to another
abbrev pub cut_to : Query → (bin_lo bin_hi from to : ℕ) → Cut
cut_to q bin_lo bin_hi from to = record {
  bin_lo = bin_lo;
  bin_hi = bin_hi;
  first = record { x = q.x0; y = q.y0; offset = from };
  last = record { x = q.x1; y = q.y1; offset = to };
}

-- the whole bins between two, if any, with this offset at their end
abbrev pub whole_bins : Query → (end first last : ℕ) → List Cut
whole_bins q end first last = if nat_lt (first + 1) last then cut_to q (first + 1) (last - 1) 0 end ∷ [] else []

-- one part when the span is in one bin; else its first bin, the whole bins between and its last bin
abbrev pub cuts_between : Query → (end first last from to : ℕ) → List Cut
cuts_between q end first last from to =
    if nat_eq first last then cut_to q first last from to ∷ [] else
    cut_to q first first from end ∷ whole_bins q end first last ++ cut_to q last last 0 to ∷ []

-- the parts of a query's span, by its bins and offsets
unfoldable pub cuts_of : Period → Query → List Cut
cuts_of period q =
    let seconds = seconds_of period in
    cuts_between q (seconds - 1) (q.t0 / seconds) (q.t1 / seconds) (q.t0 % seconds) (q.t1 % seconds)
