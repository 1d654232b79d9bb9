-- The keys by which users and tables are sorted: by the bytes of their names.
use Rattle.std.specs.Prelude.{List, [], ◌∷◌}
use Rattle.st_text.specs.Texts.{Text}
use Rattle.st_dir.specs.declared.table.TableInfo.{TableInfo}
use Rattle.st_dir.specs.declared.user.User.{User}

abbrev pub user_key : {A : Type 0} → User A → List Text
user_key user = user.name ∷ []

abbrev pub table_key : TableInfo → List Text
table_key info = info.table ∷ []
