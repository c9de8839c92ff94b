mod Withdrawn
