mod OrphanLemmas
