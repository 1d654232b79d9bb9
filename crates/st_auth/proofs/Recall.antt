-- What is remembered stays true to its set.
use Rattle.std.proofs.Common.{◌≡◌, ℕ, List, [], Bool, Some, Result, Ok, Err, inl, inr, sym, ap, ◌∙◌, OnOk, OnErr, string_bytes, bytes_eq}
use Rattle.std.specs.Prelude.{String}
use Rattle.std.specs.Map.{lookup}
use Rattle.std.proofs.lemmas.Slice.Eq.{bytes_eq-Decides}
use Rattle.lru.specs.LruCache.{LruCache, lru_cache, promoted, put_entries}
use Rattle.lru.proofs.CallerLemmas.{Contains-lookup, Contains-promoted, Contains-put_entries, IsPut}
use Rattle.lru.proofs.Splits.{Contains-nil}
use Rattle.st_label.specs.Reading.{is_true}
use Rattle.st_text.specs.Texts.{Text, is_among}
use Rattle.st_auth.specs.inner.Remembered.{AreOf, has_text}

of_nothing : {A : Type 0} (names : List Text) → AreOf {A = A} names []
of_nothing names = λ key verdict c. absurd (Contains-nil (key, verdict) c)

pub of_new : {A : Type 0} (names : List Text) (cache : LruCache (String A) Bool) (cap : ℕ) → cache ≡ lru_cache [] cap → AreOf names cache.entries
of_new names cache cap e = rw e (of_nothing names)

pub of_used : {A : Type 0} (names : List Text) (text : List ℕ) (old new : List (String A × Bool)) → new ≡ promoted (has_text text) old → AreOf names old → AreOf names new
of_used names text old new e h = λ key verdict c. h key verdict (Contains-promoted (has_text text) old (key, verdict) (rw e at c))

pub recalled : {A : Type 0} (names : List Text) (text : List ℕ) (entries : List (String A × Bool)) (verdict : Bool)
    → lookup (has_text text) entries ≡ Some verdict → AreOf names entries → verdict ≡ is_true (is_among names) text
recalled names text entries verdict e h =
    let found = Contains-lookup (has_text text) entries verdict e in
    h found.0 verdict found.1 ∙ ap (is_true (is_among names)) (sym ((bytes_eq-Decides text (string_bytes found.0)).0 found.2))

same_string : {A : Type 0} → String A → String A → Bool
same_string key other = bytes_eq (string_bytes key) (string_bytes other)

put_is : {A : Type 0} (names : List Text) (cache : LruCache (String A) Bool) (key : String A) (verdict : Bool) (e : String A × Bool)
    → verdict ≡ is_true (is_among names) (string_bytes key) → IsPut same_string cache key verdict e
    → e.1 ≡ is_true (is_among names) (string_bytes e.0)
unfolding same_string
put_is names cache key verdict e h (is, inl same) = is ∙ h ∙ ap (λ k. is_true (is_among names) (string_bytes k)) (sym same)
put_is names cache key verdict e h (is, inr there) = is ∙ h ∙ ap (is_true (is_among names)) ((bytes_eq-Decides (string_bytes key) (string_bytes e.0)).0 there.2)

of_put : {A : Type 0} (names : List Text) (cache : LruCache (String A) Bool) (key : String A) (verdict : Bool)
    → verdict ≡ is_true (is_among names) (string_bytes key) → AreOf names cache.entries → AreOf names (put_entries same_string cache key verdict)
of_put names cache key verdict h are = λ k v c. elim (Contains-put_entries same_string cache key verdict (k, v) c) [
  | inl old ↦ are k v old
  | inr new ↦ put_is names cache key verdict (k, v) h new
]

pub of_tried : {A X Y : Type 0} (names : List Text) (old new : LruCache (String A) Bool) (key : String A) (verdict : Bool) (r : Result X Y) →
    OnOk r (new ≡ lru_cache (put_entries (λ key other. bytes_eq (string_bytes key) (string_bytes other)) old key verdict) old.cap)
    → OnErr r (new ≡ old) → verdict ≡ is_true (is_among names) (string_bytes key) → AreOf names old.entries → AreOf names new.entries
unfolding same_string
of_tried names old new key verdict (Ok x) done failed h are = rw done (of_put names old key verdict h are)
of_tried names old new key verdict (Err y) done failed h are = rw failed are
