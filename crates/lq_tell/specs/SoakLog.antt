-- The changelog that a soak makes of a number.
use Rattle.std.specs.Fmt.{decimal}
use Rattle.std.specs.Prelude.{List, [], codes, if◌then◌else◌, suc, zero, ℕ, ◌%◌, ◌*◌, ◌++◌, ◌+◌, ◌/◌, ◌==◌, ◌^◌}

-- the path of its file
abbrev pub soak_path : List ℕ
soak_path = codes "soak.json"

-- each changeset is made of a number, which is made of the one before
abbrev pub next_number : ℕ → ℕ
next_number number = (number * 6364136223846793005 + 1442695040888963407) % 2 ^ 64

-- what a changeset makes: 0 is a table, 1 a column, 2 an index and 3 a view
abbrev pub kind_of : ℕ → ℕ → ℕ
kind_of place number = if place == 1 then 0 else number / 2 ^ 33 % 4

-- the table that later changesets belong to
abbrev pub table_after : ℕ → ℕ → ℕ → ℕ
table_after place kind before = if kind == 0 then place else before

-- the name of the table that a changeset makes, where it makes one
abbrev pub table_name : ℕ → List ℕ
table_name place = codes "t" ++ decimal place

unfoldable pub table_text : ℕ → List ℕ
table_text place =
    codes "{\"createTable\":{\"tableName\":\"t" ++ decimal place ++ codes "\",\"columns\":["
    ++ codes "{\"column\":{\"name\":\"id\",\"type\":\"int\",\"constraints\":{\"primaryKey\":true}}},"
    ++ codes "{\"column\":{\"name\":\"a\",\"type\":\"varchar(20)\"}},"
    ++ codes "{\"column\":{\"name\":\"b\",\"type\":\"bigint\"}}]}}"

unfoldable pub column_text : ℕ → ℕ → ℕ → List ℕ
column_text place table value =
    codes "{\"addColumn\":{\"tableName\":\"t" ++ decimal table ++ codes "\",\"columns\":["
    ++ codes "{\"column\":{\"name\":\"c" ++ decimal place ++ codes "\",\"type\":\"int\","
    ++ codes "\"defaultValueNumeric\":" ++ decimal value ++ codes "}}]}}"

unfoldable pub index_text : ℕ → ℕ → List ℕ
index_text place table =
    codes "{\"createIndex\":{\"indexName\":\"ix" ++ decimal place ++ codes "\","
    ++ codes "\"tableName\":\"t" ++ decimal table ++ codes "\",\"columns\":["
    ++ codes "{\"column\":{\"name\":\"a\"}}]}}"

unfoldable pub view_text : ℕ → ℕ → List ℕ
view_text place table =
    codes "{\"createView\":{\"viewName\":\"v" ++ decimal place ++ codes "\","
    ++ codes "\"selectQuery\":\"SELECT id FROM t" ++ decimal table ++ codes "\"}}"

unfoldable pub change_text : ℕ → ℕ → ℕ → ℕ → List ℕ
change_text place kind table number =
    if kind == 0 then table_text place
    else (if kind == 1 then column_text place table (number % 1000)
    else (if kind == 2 then index_text place table else view_text place table))

-- all but the first stand behind a comma
abbrev pub set_head : ℕ → List ℕ
set_head place = if place == 1 then codes "{\"changeSet\":{\"id\":\"" else codes ",{\"changeSet\":{\"id\":\""

unfoldable pub set_text : ℕ → ℕ → ℕ → ℕ → List ℕ
set_text place kind table number =
    set_head place ++ decimal place ++ codes "\",\"author\":\"soak\",\"changes\":[" ++ change_text place kind table number ++ codes "]}}"

-- what stands behind so many changesets that are made of a number: the number and the table that the last one has, and the text of all

abbrev pub number_at : ℕ → ℕ → ℕ
number_at number zero = number
number_at number (suc n) = next_number (number_at number n)

abbrev pub kind_at : ℕ → ℕ → ℕ
kind_at number place = kind_of place (number_at number place)

abbrev pub table_at : ℕ → ℕ → ℕ
table_at number zero = 1
table_at number (suc n) = table_after (suc n) (kind_at number (suc n)) (table_at number n)

unfoldable pub sets_text : ℕ → ℕ → List ℕ
sets_text number zero = []
sets_text number (suc n) = sets_text number n ++ set_text (suc n) (kind_at number (suc n)) (table_at number (suc n)) (number_at number (suc n))

unfoldable pub soak_changelog : ℕ → ℕ → List ℕ
soak_changelog number sets = codes "{\"databaseChangeLog\":[" ++ sets_text number sets ++ codes "]}"
